use Rattle.std.proofs.Common.{sym, ap, ◌∙◌}
use Rattle.std.specs.FinMap as maps
use Rattle.units.specs.Project.{Place as OfficePlace}
use Rattle.office_maps.specs.OfficeIn.{lent_project, place_of}
use Rattle.office_maps.proofs.OfficeLookUps.{unit_at}
use Rattle.office_maps.proofs.project_maps.ProjectMaps.unit_there.Goals as goal

pub returns : goal.returns
returns c =
    c.get-unit.ensures.value
    ∙ sym (unit_at c.args.self.now (place_of c.in_ok-place.place))
    ∙ ap (λ (place : OfficePlace). maps.get (lent_project c.args.self.now).units place) (λ i. (c.in_ok-place.ensures.lang i, c.in_ok-place.ensures.key i))
