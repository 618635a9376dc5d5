use Rattle.std.proofs.Common.{◌≡◌, sym, subst, ap}
use Rattle.std.specs.Prelude.{IfOk}
use Rattle.units.specs.Project.{Project}
use Rattle.office_specification.specs.UnitAccess.{context_of, without_suggestions}
use Rattle.office_maps.specs.OfficeIn.{office_in}
use Rattle.tables.proofs.NothingFound.{nothing_found}
use Rattle.tables.proofs.domain_reads.bare_context_in.Goals as goal

pub returns-in-Some : goal.returns-in-Some
returns-in-Some c = subst (λ (p : Project). IfOk c.bare_context_of.result (λ r. r ≡ without_suggestions (context_of p c.args.lang.now c.args.key.now c.args.name.now))) c.in-Some.ensures.its c.bare_context_of.ensures

pub returns-in-None : goal.returns-in-None
returns-in-None c = ap without_suggestions (sym (nothing_found (office_in c.args.office.now) c.args.domain.now c.in-None.ensures.none c.args.lang.now c.args.key.now c.args.name.now))
