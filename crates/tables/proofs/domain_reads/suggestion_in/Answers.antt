use Rattle.std.proofs.Common.{◌≡◌, sym, subst}
use Rattle.std.specs.Prelude.{IfOk}
use Rattle.units.specs.Project.{Project}
use Rattle.office_specification.specs.UnitAccess.{suggestion_at}
use Rattle.office_maps.specs.OfficeIn.{office_in}
use Rattle.tables.proofs.NothingFound.{no_suggestion}
use Rattle.tables.proofs.domain_reads.suggestion_in.Goals as goal

pub returns-in-Some : goal.returns-in-Some
returns-in-Some c = subst (λ (p : Project). IfOk c.suggestion_of.result (λ r. r ≡ suggestion_at p c.args.lang.now c.args.key.now c.args.number.now)) c.in-Some.ensures.its c.suggestion_of.ensures

pub returns-in-None : goal.returns-in-None
returns-in-None c = sym (no_suggestion (office_in c.args.office.now) c.args.domain.now c.in-None.ensures.none c.args.lang.now c.args.key.now c.args.number.now)
