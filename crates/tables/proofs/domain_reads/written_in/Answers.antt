use Rattle.std.proofs.Common.{◌≡◌, sym, subst}
use Rattle.std.specs.Prelude.{IfOk, Some, option_map}
use Rattle.units.specs.Project.{Project}
use Rattle.units.specs.declared.unit.UnitView.{UnitView}
use Rattle.office_specification.specs.UnitAccess.{written_at}
use Rattle.office_maps.specs.OfficeIn.{office_in}
use Rattle.tables.proofs.NothingFound.{nothing_written}
use Rattle.tables.proofs.domain_reads.written_in.Goals as goal

pub returns-in-Some : goal.returns-in-Some
returns-in-Some c = subst (λ (p : Project). IfOk c.written.result (λ r. r ≡ option_map (λ (view : UnitView). view.unit) (written_at p c.args.lang.now c.args.key.now (Some c.args.write)))) c.in-Some.ensures.its c.written.ensures

pub returns-in-None : goal.returns-in-None
returns-in-None c = sym (nothing_written (office_in c.args.office.now) c.args.domain.now c.in-None.ensures.none c.args.lang.now c.args.key.now c.args.write)
