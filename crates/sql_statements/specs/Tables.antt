-- What a read of a whole table shows. SQL's ORDER BY compares column by column (SQLite, "SELECT": "The ORDER BY clause").
use Rattle.std.specs.Prelude.{ℕ, Bool, List, [], ◌∷◌, map, codes}
use Rattle.std.specs.List.Sorted.{IsPermutation, IsSorted}
use Rattle.std.specs.declared.cmp.Ordering.{Ordering}
use Rattle.std.specs.declared.cmp.Ordering.TheVariants.{Equal}
use Rattle.std.specs.Ordering.{on, then_cmp}
use Rattle.sqlite.specs.Order.{Row, column, value_cmp}
use Rattle.sqlite.specs.Effect.{Database}
use Rattle.sql_schema.specs.Keys.{columns}
use Rattle.sql_schema.specs.Layouts.{NamedRows, rows_named}
use Rattle.sql_schema.specs.Inside.{ShowsAll}

-- rows by these columns, one after the other
abbrev pub by_columns : List ℕ → Row → Row → Ordering
by_columns [] = λ a b. Equal
by_columns (place ∷ places) = then_cmp (on (λ row. column row place) value_cmp) (by_columns places)

-- All rows of the table of this name, each once: these columns of each, in the order of some of the columns that are shown.
pub record ShowsTableIn (name : List ℕ) (places order : List ℕ) (tables : NamedRows) (rows : List Row) : Type 0 where
  pub all : IsPermutation (map (columns places) (tables name)) rows
  pub in_order : IsSorted (by_columns order) rows

-- those of a database
abbrev pub ShowsTable : List ℕ → List ℕ → List ℕ → Database → List Row → Type 0
ShowsTable name places order db rows = ShowsTableIn name places order (rows_named db) rows

-- The rows of the table of this name that pass a test, each once and so ordered.
pub record ShowsPart (name : List ℕ) (test : Row → Bool) (places order : List ℕ) (db : Database) (rows : List Row) : Type 0 where
  pub all : ShowsAll name test (columns places) db rows
  pub in_order : IsSorted (by_columns order) rows

-- role, name
abbrev pub ShowsTeamIn : NamedRows → List Row → Type 0
ShowsTeamIn = ShowsTableIn (codes "team") (2 ∷ 1 ∷ []) (1 ∷ [])

abbrev pub ShowsTeam : Database → List Row → Type 0
ShowsTeam db rows = ShowsTeamIn (rows_named db) rows

-- plural, extracted, refs, flags, key, place
abbrev pub ShowsTemplateIn : NamedRows → List Row → Type 0
ShowsTemplateIn = ShowsTableIn (codes "template") (3 ∷ 4 ∷ 5 ∷ 6 ∷ 2 ∷ 0 ∷ []) (5 ∷ [])

abbrev pub ShowsTemplate : Database → List Row → Type 0
ShowsTemplate db rows = ShowsTemplateIn (rows_named db) rows

-- header, plural, lang
abbrev pub ShowsLanguagesIn : NamedRows → List Row → Type 0
ShowsLanguagesIn = ShowsTableIn (codes "language") (2 ∷ 3 ∷ 1 ∷ []) (2 ∷ [])

abbrev pub ShowsLanguages : Database → List Row → Type 0
ShowsLanguages db rows = ShowsLanguagesIn (rows_named db) rows

-- plural, forms, state, obsolete, revision, comment, previous, lang, key
abbrev pub ShowsUnitsIn : NamedRows → List Row → Type 0
ShowsUnitsIn = ShowsTableIn (codes "unit") (3 ∷ 4 ∷ 5 ∷ 6 ∷ 7 ∷ 8 ∷ 9 ∷ 1 ∷ 2 ∷ []) (7 ∷ 8 ∷ [])

abbrev pub ShowsUnits : Database → List Row → Type 0
ShowsUnits db rows = ShowsUnitsIn (rows_named db) rows

-- number, place, suggester, forms, lang, key
abbrev pub ShowsSuggestionsIn : NamedRows → List Row → Type 0
ShowsSuggestionsIn = ShowsTableIn (codes "suggestion") (1 ∷ 4 ∷ 5 ∷ 6 ∷ 2 ∷ 3 ∷ []) (4 ∷ 5 ∷ 1 ∷ [])

abbrev pub ShowsSuggestions : Database → List Row → Type 0
ShowsSuggestions db rows = ShowsSuggestionsIn (rows_named db) rows

-- voter, value, number
abbrev pub ShowsVotesIn : NamedRows → List Row → Type 0
ShowsVotesIn = ShowsTableIn (codes "vote") (2 ∷ 3 ∷ 1 ∷ []) (2 ∷ 0 ∷ [])

abbrev pub ShowsVotes : Database → List Row → Type 0
ShowsVotes db rows = ShowsVotesIn (rows_named db) rows
