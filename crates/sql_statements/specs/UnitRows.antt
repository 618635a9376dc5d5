-- What a look at a unit shows of rows by the names of their tables: the office's rows, the unit's, and the votes on each of its suggestions, or on one of them, or
-- none of them.
use Rattle.std.specs.Prelude.{◌≡◌, ℕ, List, [], ◌∷◌, map, filter, Option, option_map, IfSome, codes}
use Rattle.std.specs.List.{All}
use Rattle.std.specs.List.Sorted.{IsPermutation}
use Rattle.sqlite.specs.Order.{Row}
use Rattle.sql_laws.specs.RowMaps.{IsFound}
use Rattle.sql_schema.specs.Inside.{IsInOrder}
use Rattle.sql_schema.specs.Keys.{text_at, first_text, first_texts, second_text, key_texts, has_text, is_on_unit, columns}
use Rattle.sql_schema.specs.Layouts.{NamedRows}
use Rattle.sql_statements.specs.declared.unit_rows.SuggestionRows.{SuggestionRows}
use Rattle.sql_statements.specs.declared.unit_rows.OfficeRows.{OfficeRows}
use Rattle.sql_statements.specs.declared.unit_rows.UnitRows.{UnitRows}
use Rattle.sql_statements.specs.declared.unit_rows.ContextRows.{ContextRows}
use Rattle.sql_statements.specs.Answers.{ShowsPolicyIn}

-- the language, the policy, and the role of the one who asks
pub record ShowsOfficeRows (lang name : List ℕ) (tables : NamedRows) (rows : OfficeRows) : Type 0 where
  -- header, plural
  pub language : IsFound first_text (columns (2 ∷ 3 ∷ [])) (tables (codes "language")) lang rows.language
  pub policy : ShowsPolicyIn tables rows.policy
  pub role : IsFound first_text (columns (2 ∷ [])) (tables (codes "team")) name rows.role

abbrev pub suggestion_of : SuggestionRows → Row
suggestion_of rows = rows.suggestion

-- the votes are those on this suggestion, each with voter and value: a suggestion's number is the first column that is shown of it
abbrev pub ShowsVotesOn : NamedRows → SuggestionRows → Type 0
ShowsVotesOn tables rows = IsPermutation (map (columns (2 ∷ 3 ∷ [])) (filter (has_text 1 (text_at 0 rows.suggestion)) (tables (codes "vote")))) rows.votes.items

-- number, place, suggester, forms of each suggestion on the unit, in the order of the places
abbrev pub ShowsSuggestionsOn : List ℕ → List ℕ → NamedRows → List Row → Type 0
ShowsSuggestionsOn lang key tables rows =
    IsPermutation (map (columns (1 ∷ 4 ∷ 5 ∷ 6 ∷ [])) (filter (is_on_unit lang key) (tables (codes "suggestion")))) rows × IsInOrder 1 rows

-- plural, forms, state, obsolete, revision, comment, previous
abbrev pub ShowsUnitOf : List ℕ → List ℕ → NamedRows → Option Row → Type 0
ShowsUnitOf lang key tables found = IsFound first_texts (columns (3 ∷ 4 ∷ 5 ∷ 6 ∷ 7 ∷ 8 ∷ 9 ∷ [])) (tables (codes "unit")) (lang ∷ key ∷ []) found

-- plural, extracted, refs, flags
abbrev pub ShowsEntryOf : List ℕ → NamedRows → Option Row → Type 0
ShowsEntryOf key tables found = IsFound second_text (columns (3 ∷ 4 ∷ 5 ∷ 6 ∷ [])) (tables (codes "template")) key found

-- the unit, its template's entry, and its suggestions with the votes on each
pub record ShowsUnitRows (lang key : List ℕ) (tables : NamedRows) (rows : UnitRows) : Type 0 where
  pub unit : ShowsUnitOf lang key tables rows.unit
  pub entry : ShowsEntryOf key tables rows.entry
  pub suggestions : ShowsSuggestionsOn lang key tables (map suggestion_of rows.suggestions.items)
  pub votes : All (ShowsVotesOn tables) rows.suggestions.items

-- both
pub record ShowsContextRows (lang key name : List ℕ) (tables : NamedRows) (rows : ContextRows) : Type 0 where
  pub office : ShowsOfficeRows lang name tables rows.office
  pub unit : ShowsUnitRows lang key tables rows.unit

-- ---- without the suggestions, or of them one

-- the unit and its template's entry; no suggestion is asked for
pub record ShowsUnitAlone (lang key : List ℕ) (tables : NamedRows) (rows : UnitRows) : Type 0 where
  pub unit : ShowsUnitOf lang key tables rows.unit
  pub entry : ShowsEntryOf key tables rows.entry
  pub none : rows.suggestions.items ≡ []

-- with the office's rows
pub record ShowsContextAlone (lang key name : List ℕ) (tables : NamedRows) (rows : ContextRows) : Type 0 where
  pub office : ShowsOfficeRows lang name tables rows.office
  pub unit : ShowsUnitAlone lang key tables rows.unit

-- the suggestion of a number on the unit, if there is one: its number, place, suggester and forms, and the votes on it
pub record ShowsOneSuggestion (lang key number : List ℕ) (tables : NamedRows) (found : Option SuggestionRows) : Type 0 where
  pub suggestion : IsFound (key_texts (1 ∷ 2 ∷ 3 ∷ [])) (columns (1 ∷ 4 ∷ 5 ∷ 6 ∷ [])) (tables (codes "suggestion")) (number ∷ lang ∷ key ∷ []) (option_map suggestion_of found)
  pub votes : IfSome found (ShowsVotesOn tables)
