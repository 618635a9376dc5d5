use Rattle.std.proofs.Common.{◌≡◌, List, [], map, Option, subst, sym, ap, ◌∙◌}
use Rattle.std.specs.Prelude.{IfOk}
use Rattle.std.specs.Option.{option_map_or, option_copied}
use Rattle.units.specs.declared.unit.Suggestion.{Suggestion}
use Rattle.units.specs.declared.unit.Unit.{Unit}
use Rattle.review.specs.Parts.{without_votes}
use Rattle.office_maps.proofs.project_maps.ProjectMaps.suggestions_of.Goals as goal

abbrev shown : Option Unit → List Suggestion
shown unit = option_map_or (λ u. map without_votes u.suggestions) unit []

pub returns-in-Some : goal.returns-in-Some
returns-in-Some c =
    subst (λ (suggestions : List Suggestion). IfOk c.copies_without_votes.result (λ all. all ≡ suggestions))
    (ap (map without_votes) c.as_slice.ensures ∙ ap shown (sym (ap option_copied c.in-Some.is) ∙ c.in_ok-unit.ensures)) c.copies_without_votes.ensures

pub returns-in-None : goal.returns-in-None
returns-in-None c = c.new.ensures ∙ ap shown (sym (ap option_copied c.in-None.is) ∙ c.in_ok-unit.ensures)
