-- What walks over units, suggestions and votes show.
use Rattle.std.specs.Prelude.{◌&&◌, ℕ, Bool, true, false, List, [], ◌∷◌, filter, length, map, codes}
use Rattle.std.specs.List.Sorted.{IsPermutation, IsSorted}
use Rattle.sqlite.specs.Effect.{Database}
use Rattle.sqlite.specs.declared.types.Value.{Value}
use Rattle.sqlite.specs.declared.types.Value.TheVariants.{Null, Int, Real, Blob, Text as Words}
use Rattle.sqlite.specs.Order.{Row, column}
use Rattle.sql_schema.specs.Keys.{text_at, first_text, has_text, columns}
use Rattle.sql_schema.specs.Layouts.{NamedRows, rows_named}
use Rattle.sql_statements.specs.DomainCleared.{is_on_domain_unit}
use Rattle.sql_statements.specs.SummedVotes.{told}
use Rattle.sql_statements.specs.Tables.{by_columns, ShowsTable}

-- voter, value, number
abbrev pub ShowsAllVotes : Database → List Row → Type 0
ShowsAllVotes = ShowsTable (codes "d_vote") (2 ∷ 3 ∷ 1 ∷ []) (2 ∷ 0 ∷ [])

abbrev pub is_empty : List Row → Bool
is_empty [] = true
is_empty (row ∷ rows) = false

-- there is no language of a unit's
abbrev pub is_unplaced : NamedRows → Row → Bool
is_unplaced tables u = is_empty (filter (λ l. has_text 1 (text_at 1 u) l && has_text 2 (text_at 2 u) l) (tables (codes "d_language")))

-- domain, lang: of each unit of which that is so
abbrev pub ShowsUnplaced : Database → List Row → Type 0
ShowsUnplaced db rows = IsPermutation (map (columns (1 ∷ 2 ∷ [])) (filter (is_unplaced (rows_named db)) (rows_named db (codes "d_unit")))) rows

-- no sum is kept of a suggestion's votes
abbrev pub is_unsummed : NamedRows → Row → Bool
is_unsummed tables s = is_empty (filter (has_text 1 (first_text s)) (tables (codes "d_vote_sum")))

-- number: of each suggestion of which that is so
abbrev pub ShowsUnsummed : Database → List Row → Type 0
ShowsUnsummed db rows = IsPermutation (map (columns (1 ∷ [])) (filter (is_unsummed (rows_named db)) (rows_named db (codes "d_suggestion")))) rows

-- ---- of a domain's language

-- how many suggestions are on a unit
abbrev pub suggestions_on : NamedRows → Row → ℕ
suggestions_on tables u = length (filter (is_on_domain_unit (text_at 1 u) (text_at 2 u) (text_at 3 u)) (tables (codes "d_suggestion")))

-- plural, forms, state, obsolete, revision, comment, previous, lang, key, and how many suggestions
abbrev pub unit_counted : NamedRows → Row → Row
unit_counted tables u =
    column u 4 ∷ column u 5 ∷ column u 6 ∷ column u 7 ∷ column u 8 ∷ column u 9 ∷ column u 10 ∷ column u 2 ∷ column u 3 ∷ told (suggestions_on tables u) ∷ []

abbrev pub is_unit_of : List ℕ → List ℕ → Row → Bool
is_unit_of domain lang u = has_text 1 domain u && has_text 2 lang u

-- The units of a language, by key.
pub record ShowsUnitsOf (domain lang : List ℕ) (db : Database) (rows : List Row) : Type 0 where
  pub all : IsPermutation (map (unit_counted (rows_named db)) (filter (is_unit_of domain lang) (rows_named db (codes "d_unit")))) rows
  pub in_order : IsSorted (by_columns (8 ∷ [])) rows

-- a unit is that of a suggestion
abbrev pub is_unit_under : Row → Row → Bool
is_unit_under s u = has_text 1 (text_at 2 s) u && (has_text 2 (text_at 3 s) u && has_text 3 (text_at 4 s) u)

abbrev pub is_textual : Value → Bool
is_textual Null = false
is_textual (Int n) = false
is_textual (Real x) = false
is_textual (Words t) = true
is_textual (Blob b) = false

-- it has a plural
abbrev pub has_plural : Row → Bool
has_plural u = is_textual (column u 4)

-- how many units are a suggestion's and have a plural: one, or none
abbrev pub plurals_under : NamedRows → Row → ℕ
plurals_under tables s = length (filter (λ u. is_unit_under s u && has_plural u) (tables (codes "d_unit")))

-- number, place, suggester, forms, lang, key, and how many plurals its unit has
abbrev pub suggestion_beside : NamedRows → Row → Row
suggestion_beside tables s = column s 1 ∷ column s 5 ∷ column s 6 ∷ column s 7 ∷ column s 3 ∷ column s 4 ∷ told (plurals_under tables s) ∷ []

abbrev pub is_suggestion_of : List ℕ → List ℕ → Row → Bool
is_suggestion_of domain lang s = has_text 2 domain s && has_text 3 lang s

-- The suggestions on units of a language, by key and place.
pub record ShowsSuggestionsOf (domain lang : List ℕ) (db : Database) (rows : List Row) : Type 0 where
  pub all : IsPermutation (map (suggestion_beside (rows_named db)) (filter (is_suggestion_of domain lang) (rows_named db (codes "d_suggestion")))) rows
  pub in_order : IsSorted (by_columns (5 ∷ 1 ∷ [])) rows
