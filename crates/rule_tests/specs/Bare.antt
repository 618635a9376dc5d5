-- A unit by itself and its suggestions apart: what each is asked. This project's own words.
use Rattle.std.specs.Prelude.{◌≡◌, ◌≤◌, [], List, length, true, false, Some, All}
use Rattle.std.specs.FinMap as maps
use Rattle.po_text.specs.declared.entry.Entry.{Entry}
use Rattle.plural_expr.specs.Values.{Rule}
use Rattle.units.specs.Limits.{suggestion_limit, vote_limit}
use Rattle.units.specs.Project.{entry_of}
use Rattle.units.specs.Units.{forms_needed}
use Rattle.units.specs.declared.unit.Key.{Key}
use Rattle.units.specs.declared.unit.Suggestion.{Suggestion}
use Rattle.units.specs.declared.unit.Unit.{Unit}

abbrev pub bare : Unit → Unit
bare unit = record unit { suggestions = [] }

-- An obsolete unit has none, and those on a current one have the forms that it needs; there are few, with few votes.
pub record SuggestionsKeep (rule : Rule) (unit : Unit) (suggestions : List Suggestion) : Type 0 where
  pub formed : unit.obsolete ≡ false → All (λ s. length s.forms ≡ forms_needed rule unit.plural) suggestions
  pub none : unit.obsolete ≡ true → suggestions ≡ []
  pub few : length suggestions ≤ suggestion_limit
  pub voted : All (λ s. maps.len s.votes ≤ vote_limit) suggestions

-- a unit is obsolete, or the template has an entry of this key, with the unit's msgid_plural
abbrev pub FitsEntry : List Entry → Key → Unit → Type 0
FitsEntry template key unit = unit.obsolete ≡ false → (entry : Entry) × (entry_of template key ≡ Some entry) × (unit.plural ≡ entry.plural)
