use Rattle.std.proofs.Common.{◌≡◌, map, take}
use Rattle.serde_json.specs.View.{view}
use Rattle.request_book.specs.Words.{object_of}
use Rattle.views.specs.UnitTexts.{suggestion_fields}
use Rattle.views.proofs.unit_view.suggestions_value.Given as goal

-- the suggestions so far
abbrev pub invariant-loop-suggestion : goal.invariant-loop-suggestion
invariant-loop-suggestion l = map view l.list.items ≡ map (λ s. object_of (suggestion_fields s)) (take l.suggestion-index l.suggestions)
