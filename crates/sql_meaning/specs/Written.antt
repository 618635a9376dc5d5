-- A unit is written: its row in the place of the one that was there, its suggestions taken away, and its suggestions put anew, each with
-- its votes.
use Rattle.std.specs.Prelude.{◌≡◌, ℕ, ◌+◌, List, [], ◌∷◌, map, codes}
use Rattle.std.specs.FinMap as maps
use Rattle.sqlite.specs.Order.{Row}
use Rattle.po_text.specs.Texts.{Text}
use Rattle.units.specs.Units.{key_text}
use Rattle.units.specs.declared.unit.Unit.{Unit}
use Rattle.units.specs.declared.unit.Suggestion.{Suggestion}
use Rattle.request_book.specs.Words.{number_text}
use Rattle.sql_schema.specs.Keys.{first_text, first_texts}
use Rattle.sql_schema.specs.Inside.{PutsIn, HoldsValues, Then}
use Rattle.sql_schema.specs.Layouts.{NamedRows}
use Rattle.sql_meaning.specs.Cells.{unit_cells, suggestion_cells, vote_cells}
use Rattle.sql_meaning.specs.RowChanges.{ClearsIn}

-- rows of these cells are put into the rows of this name, one after the other
abbrev pub PutsRows : {K : Type 0} → List ℕ → (Row → K) → List Row → NamedRows → NamedRows → Type 0
PutsRows name key [] old new = new ≡ old
PutsRows name key (cells ∷ more) old new = Then (PutsIn name key (HoldsValues cells)) (PutsRows name key more) old new

-- a suggestion, and the votes on it
abbrev pub PutsSuggestion : Text → Text → ℕ → Suggestion → NamedRows → NamedRows → Type 0
PutsSuggestion lang key place s =
    Then (PutsIn (codes "suggestion") first_text (HoldsValues (suggestion_cells lang key place s)))
    (PutsRows (codes "vote") first_texts (map (vote_cells (number_text s.number)) (maps.entries s.votes)))

-- from this place on
abbrev pub PutsSuggestions : Text → Text → ℕ → List Suggestion → NamedRows → NamedRows → Type 0
PutsSuggestions lang key place [] old new = new ≡ old
PutsSuggestions lang key place (s ∷ more) old new = Then (PutsSuggestion lang key place s) (PutsSuggestions lang key (place + 1) more) old new

abbrev pub WritesUnit : Text → Unit → NamedRows → NamedRows → Type 0
WritesUnit lang unit =
    Then (PutsIn (codes "unit") first_texts (HoldsValues (unit_cells lang unit)))
    (Then (ClearsIn lang (key_text unit.key)) (PutsSuggestions lang (key_text unit.key) 0 unit.suggestions))
