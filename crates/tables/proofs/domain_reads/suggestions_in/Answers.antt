use Rattle.std.proofs.Common.{◌≡◌, sym, subst, ◌∙◌}
use Rattle.std.specs.Prelude.{IfOk}
use Rattle.units.specs.Project.{Project}
use Rattle.office_specification.specs.UnitAccess.{suggestions_at}
use Rattle.office_maps.specs.OfficeIn.{office_in}
use Rattle.tables.proofs.NothingFound.{nothing_suggested}
use Rattle.tables.proofs.domain_reads.suggestions_in.Goals as goal

pub returns-in-Some : goal.returns-in-Some
returns-in-Some c = subst (λ (p : Project). IfOk c.suggestions_of.result (λ r. r ≡ suggestions_at p c.args.lang.now c.args.key.now)) c.in-Some.ensures.its c.suggestions_of.ensures

pub returns-in-None : goal.returns-in-None
returns-in-None c = c.new.ensures ∙ sym (nothing_suggested (office_in c.args.office.now) c.args.domain.now c.in-None.ensures.none c.args.lang.now c.args.key.now)
