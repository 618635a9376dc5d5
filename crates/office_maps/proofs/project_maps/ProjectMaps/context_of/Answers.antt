use Rattle.std.proofs.Common.{◌≡◌, Option, subst}
use Rattle.std.specs.Prelude.{IfOk}
use Rattle.units.specs.declared.unit.UnitView.{UnitView}
use Rattle.office_maps.specs.ActContexts.{context_with}
use Rattle.office_maps.specs.OfficeIn.{lent_project}
use Rattle.office_maps.proofs.project_maps.ProjectMaps.context_of.Goals as goal

pub returns : goal.returns
returns c =
    subst (λ (view : Option UnitView). IfOk c.context_with.result (λ r. r ≡ context_with (lent_project c.args.self.now) c.args.lang.now c.args.name.now view)) c.in_ok-view.ensures c.context_with.ensures
