use Rattle.std.proofs.Common.{List, Some, None, ap, ◌∙◌}
use Rattle.std.specs.Prelude.{option_map}
use Rattle.units.specs.declared.unit.Suggestion.{Suggestion}
use Rattle.review.specs.Parts.{bare}
use Rattle.office_maps.specs.OfficeIn.{place_of}
use Rattle.office_maps.proofs.OfficeLookUps.{view_at}
use Rattle.office_maps.proofs.project_maps.ProjectMaps.bare_unit_at.Goals as goal

pub returns-in_default : goal.returns-in_default
returns-in_default c = ap (option_map bare) (view_at c.args.self.now (place_of c.args.place.now) None c.in_default.ensures.value)

pub returns-in-Ok : goal.returns-in-Ok
returns-in-Ok c =
    (λ i. Some (record { unit = (c.in-Ok.ensures ∙ ap (λ (suggestions : List Suggestion). record c.in-Some.unit.now { suggestions = suggestions }) c.new.ensures) i; source = c.in_ok-source.ensures i }))
    ∙ ap (option_map bare) (view_at c.args.self.now (place_of c.args.place.now) (Some c.in-Some.unit.now) c.in-Some.ensures.value)
