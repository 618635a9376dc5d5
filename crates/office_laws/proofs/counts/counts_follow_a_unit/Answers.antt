use Rattle.std.proofs.Common.{ap}
use Rattle.std.specs.Prelude.{Some}
use Rattle.units.specs.Office.{Office, project_in}
use Rattle.office_specification.specs.UnitAccess.{with_view}
use Rattle.office_specification.proofs.domains.InDomains.{with_project-same}
use Rattle.office_specification.specs.Tally.{counts_of}
use Rattle.office_laws.proofs.OfficeCounts.{unit_moves, unit_stays, elsewhere_stays}
use Rattle.office_laws.proofs.counts.counts_follow_a_unit.Goals as goal

pub returns-clause-moves : goal.returns-clause-moves
returns-clause-moves c = unit_moves

pub returns-clause-others : goal.returns-clause-others
returns-clause-others c = unit_stays

pub returns-clause-other_domains : goal.returns-clause-other_domains
returns-clause-other_domains c = λ office domain other lang any key view apart. elsewhere_stays office domain other (with_view (project_in office domain) lang key (Some view)) any apart

pub returns-clause-refused : goal.returns-clause-refused
returns-clause-refused c = λ office domain other lang any key. ap (λ (o : Office). counts_of (project_in o other) any) (with_project-same office domain)
