use Rattle.std.proofs.Common.{◌≡◌, subst}
use Rattle.std.specs.Prelude.{IfOk, option_map}
use Rattle.units.specs.Project.{Place as OfficePlace, view_of}
use Rattle.review.specs.Parts.{bare}
use Rattle.office_maps.specs.OfficeIn.{lent_project}
use Rattle.office_maps.proofs.project_maps.ProjectMaps.bare_unit_of.Goals as goal

pub returns : goal.returns
returns c =
    subst (λ (place : OfficePlace). IfOk c.bare_unit_at-view.result (λ view. view ≡ option_map bare (view_of (lent_project c.args.self.now) place)))
    (λ i. (c.in_ok-place.ensures.lang i, c.in_ok-place.ensures.key i)) c.bare_unit_at-view.ensures
