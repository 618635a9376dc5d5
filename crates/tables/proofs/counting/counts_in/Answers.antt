use Rattle.std.proofs.Common.{◌≡◌, sym, subst}
use Rattle.std.specs.Prelude.{IfOk}
use Rattle.units.specs.Project.{Project}
use Rattle.units.specs.Projects.{IsProject}
use Rattle.office_specification.specs.Tally.{counts_of}
use Rattle.office_maps.specs.OfficeIn.{office_in}
use Rattle.tables.proofs.NothingCounted.{nothing_counted}
use Rattle.tables.proofs.counting.counts_in.Goals as goal

pub returns-in-Some : goal.returns-in-Some
returns-in-Some c = λ rules.
    subst (λ (p : Project). IfOk c.project_counts.result (λ r. r ≡ counts_of p c.args.lang.now)) c.in-Some.ensures.its
    (c.project_counts.ensures (subst IsProject (sym c.in-Some.ensures.its) (rules.projects c.args.domain.now c.in-Some.ensures.there)))

pub returns-in-None : goal.returns-in-None
returns-in-None c = λ rules. sym (nothing_counted (office_in c.args.office.now) c.args.domain.now c.in-None.ensures.none c.args.lang.now)
