-- What the writers of units make of rows by the names of their tables: the rows of a unit in the place of those that are there, and units one after the other.
-- Numbers of requests are 16 bytes, and strings those of a catalogue.
use Rattle.std.specs.Prelude.{⊤, ◌≡◌, ◌&&◌, ℕ, ◌+◌, pos, int_lt, Bool, true, List, [], ◌∷◌, map, Option, Some, None, codes}
use Rattle.std.specs.List.{list_any}
use Rattle.sqlite.specs.Order.{Row}
use Rattle.std.specs.FinMap as maps
use Rattle.sqlite_rules.specs.Lists.{Has}
use Rattle.po_text.specs.Texts.{Text}
use Rattle.units.specs.KeyTexts.{HasStrings}
use Rattle.units.specs.Units.{key_text}
use Rattle.units.specs.declared.unit.Key.{Key}
use Rattle.units.specs.declared.unit.Suggestion.{Suggestion}
use Rattle.units.specs.declared.unit.Unit.{Unit}
use Rattle.units.specs.declared.votes.VoteValue.{VoteValue}
use Rattle.request_book.specs.Acts.{IsNumber}
use Rattle.request_book.specs.Words.{number_text}
use Rattle.template_update.specs.Marks.{unmarked}
use Rattle.office_specification.specs.ProjectActs.{LanguagePlan}
use Rattle.office_specification.specs.declared.values.UnitWrite.{UnitWrite}
use Rattle.office_specification.specs.declared.values.UnitWrite.TheVariants as writes
use Rattle.sql_columns.specs.Written.{ArePrevious}
use Rattle.sql_schema.specs.Inside.{PutsIn, HoldsValues, Then}
use Rattle.sql_schema.specs.Keys.{first_text, first_texts, has_text, is_on_unit}
use Rattle.sql_meaning.specs.Cells.{unit_cells, suggestion_cells, vote_cells}
use Rattle.sql_meaning.specs.Written.{PutsRows}
use Rattle.sql_schema.specs.Layouts.{NamedRows}
use Rattle.sql_meaning.specs.RowKeys.{AreOfficeRows}
use Rattle.sql_meaning.specs.RowChanges.{AddsIn, TakesIn, ClearsIn}
use Rattle.sql_meaning.specs.Values.{integer_at}
use Rattle.sql_changes.specs.OnDomains.{MakesIf}

-- ---- a unit

-- each is made by the request of a number
abbrev pub HaveNumbers : List Suggestion → Type 0
HaveNumbers ss = (s : Suggestion) → Has ss s → IsNumber s.number

-- a suggestion, whose number no other has, and the votes on it
abbrev pub AddsSuggestion : Text → Text → ℕ → Suggestion → NamedRows → NamedRows → Type 0
AddsSuggestion lang key place s =
    Then (AddsIn (codes "suggestion") first_text (HoldsValues (suggestion_cells lang key place s)))
    (PutsRows (codes "vote") first_texts (map (vote_cells (number_text s.number)) (maps.entries s.votes)))

-- from this place on
abbrev pub AddsSuggestions : Text → Text → ℕ → List Suggestion → NamedRows → NamedRows → Type 0
AddsSuggestions lang key place [] old new = new ≡ old
AddsSuggestions lang key place (s ∷ more) old new = Then (AddsSuggestion lang key place s) (AddsSuggestions lang key (place + 1) more) old new

abbrev pub AddsNumberedSuggestion : Text → Text → ℕ → Suggestion → NamedRows → NamedRows → Type 0
AddsNumberedSuggestion lang key place s old new = AddsSuggestion lang key place s old new × IsNumber s.number

-- from the first place on
abbrev pub AddsNumberedSuggestions : Text → Text → List Suggestion → NamedRows → NamedRows → Type 0
AddsNumberedSuggestions lang key ss old new = AddsSuggestions lang key 0 ss old new × HaveNumbers ss

-- its row in the place of the one that is there, and its suggestions in the place of those that are there
abbrev pub WritesNumberedUnit : Text → Unit → NamedRows → NamedRows → Type 0
WritesNumberedUnit lang unit =
    Then (PutsIn (codes "unit") first_texts (HoldsValues (unit_cells lang unit)))
    (Then (ClearsIn lang (key_text unit.key)) (AddsNumberedSuggestions lang (key_text unit.key) unit.suggestions))

-- ---- what an act touches of a unit

-- its row in the place of the one that is there
abbrev pub PutsUnitRow : Text → Unit → NamedRows → NamedRows → Type 0
PutsUnitRow lang unit = PutsIn (codes "unit") first_texts (HoldsValues (unit_cells lang unit))

-- no suggestion on the unit stands at this place or behind it
abbrev pub AreBefore : Text → Text → ℕ → List Row → Type 0
AreBefore lang key place rows = (row : Row) → Has rows row → is_on_unit lang key row ≡ true → int_lt (integer_at 4 row) (pos place) ≡ true

-- a suggestion behind those that are there
abbrev pub AddsLast : Text → Text → Suggestion → NamedRows → NamedRows → Type 0
AddsLast lang key s old new = (place : ℕ) × AreBefore lang key place (old (codes "suggestion")) × AddsNumberedSuggestion lang key place s old new

-- whether the suggestion of a number is on the unit
abbrev pub is_suggested : Text → Text → Text → NamedRows → Bool
is_suggested lang key number rows = list_any (λ row. has_text 1 (number_text number) row && is_on_unit lang key row) (rows (codes "suggestion"))

-- a voter's vote on the suggestion of a number, in the place of the one that is there; or none
abbrev pub PutsVote : Text → Text → Option VoteValue → NamedRows → NamedRows → Type 0
PutsVote number voter (Some value) = PutsIn (codes "vote") first_texts (HoldsValues (vote_cells (number_text number) (voter, value)))
PutsVote number voter None = TakesIn (codes "vote") (λ row. has_text 1 (number_text number) row && has_text 2 voter row)

-- on a suggestion that is on the unit; on another nothing
abbrev pub WritesVote : Text → Text → Text → Text → Option VoteValue → NamedRows → NamedRows → Type 0
WritesVote lang key number voter value old new = MakesIf (is_suggested lang key number old) (PutsVote number voter value) (λ before after. after ≡ before) old new × IsNumber number

-- what an act writes of the unit at a key
abbrev pub WritesOfUnit : Text → Key → UnitWrite → NamedRows → NamedRows → Type 0
WritesOfUnit lang key (writes.Whole view) = WritesNumberedUnit lang view.unit
WritesOfUnit lang key (writes.Row view) = PutsUnitRow lang view.unit
WritesOfUnit lang key (writes.Suggested s) = AddsLast lang (key_text key) s
WritesOfUnit lang key (writes.Voted number voter value sum) = WritesVote lang (key_text key) number voter value

-- the previous strings of a unit whose row is written are strings of a catalogue
abbrev pub ArePreviousIn : UnitWrite → Type 0
ArePreviousIn (writes.Whole view) = ArePrevious view.unit.previous
ArePreviousIn (writes.Row view) = ArePrevious view.unit.previous
ArePreviousIn (writes.Suggested s) = ⊤
ArePreviousIn (writes.Voted number voter value sum) = ⊤

-- ---- units, one after the other

-- and what is made is as a schema asks
abbrev pub LeavesRows : (NamedRows → NamedRows → Type 0) → NamedRows → NamedRows → Type 0
LeavesRows Makes old new = Makes old new × AreOfficeRows new

-- a unit whose strings are those of a catalogue
abbrev pub WritesPlanned : Text → Unit → NamedRows → NamedRows → Type 0
WritesPlanned lang unit old new = LeavesRows (WritesNumberedUnit lang unit) old new × HasStrings unit.key × ArePrevious unit.previous

-- the first first
abbrev pub WritesUnits : Text → List Unit → NamedRows → NamedRows → Type 0
WritesUnits lang [] old new = new ≡ old
WritesUnits lang (unit ∷ more) old new = Then (WritesPlanned lang unit) (WritesUnits lang more) old new

-- the last first, so that of two units of one key the first stays
abbrev pub WritesUnitsBack : Text → List Unit → NamedRows → NamedRows → Type 0
WritesUnitsBack lang [] old new = new ≡ old
WritesUnitsBack lang (unit ∷ more) old new = Then (WritesUnitsBack lang more) (WritesPlanned lang unit) old new

-- of each language's plan the units that it doesn't tell to stay as they were, the last first; the others aren't written
abbrev pub WritesPlansBack : List LanguagePlan → NamedRows → NamedRows → Type 0
WritesPlansBack [] old new = new ≡ old
WritesPlansBack (p ∷ more) old new = Then (WritesPlansBack more) (WritesUnitsBack p.0 (unmarked p.1.units p.1.stays)) old new
