-- No text of these has a float, so what is written is the compact text.
use Rattle.std.proofs.Common.{◌≡◌, ℕ, List, [], ◌∷◌, Option, Some, None, map, ℤ, pos, negsuc, false, refl}
use Rattle.serde_json.specs.Data.{string}
use Rattle.serde_json.specs.Find.{is_float, of_integer}
use Rattle.serde_json.specs.View.{items_of}
use Rattle.serde_json.specs.Written.{has_float, items_have_float}
use Rattle.plural_expr.specs.Values.{Rule}
use Rattle.po_text.specs.Texts.{Text}
use Rattle.units.specs.declared.unit.Suggestion.{Suggestion}
use Rattle.units.specs.declared.unit.UnitView.{UnitView}
use Rattle.units.specs.Units.{vote_sum}
use Rattle.request_book.specs.Words.{object_of, natural}
use Rattle.views.specs.Parts.{text_or_null}
use Rattle.views.specs.UnitTexts.{suggestion_fields, unit_fields}
use Rattle.views.specs.CountsTexts.{counts_fields}
use Rattle.office_specification.specs.declared.tally.Tally.{Tally}

whole_is_flat : (z : ℤ) → is_float (of_integer z) ≡ false
whole_is_flat (pos n) = refl
whole_is_flat (negsuc n) = refl

texts_are_flat : (texts : List Text) → items_have_float (items_of (map string texts)) ≡ false
texts_are_flat [] = refl
texts_are_flat (text ∷ texts) = texts_are_flat texts

numbers_are_flat : (numbers : List ℕ) → items_have_float (items_of (map natural numbers)) ≡ false
numbers_are_flat [] = refl
numbers_are_flat (n ∷ numbers) = numbers_are_flat numbers

absent_is_flat : (text : Option Text) → has_float (text_or_null text) ≡ false
absent_is_flat None = refl
absent_is_flat (Some text) = refl

suggestion_is_flat : (suggestion : Suggestion) → has_float (object_of (suggestion_fields suggestion)) ≡ false
suggestion_is_flat suggestion = rw (texts_are_flat suggestion.forms, whole_is_flat (vote_sum suggestion.votes)) refl

suggestions_are_flat : (suggestions : List Suggestion) → items_have_float (items_of (map (λ (s : Suggestion). object_of (suggestion_fields s)) suggestions)) ≡ false
suggestions_are_flat [] = refl
suggestions_are_flat (suggestion ∷ suggestions) = rw (suggestion_is_flat suggestion) (suggestions_are_flat suggestions)

pub unit_is_flat : (view : UnitView) (rule : Rule) → has_float (object_of (unit_fields view rule)) ≡ false
unit_is_flat view rule = simp (texts_are_flat, absent_is_flat, numbers_are_flat, suggestions_are_flat)

pub counts_are_flat : (counts : Tally) → has_float (object_of (counts_fields counts)) ≡ false
counts_are_flat counts = refl
