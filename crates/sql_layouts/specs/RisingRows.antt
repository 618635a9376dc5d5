-- Whether the rows that a query shows hold rowids that rise.
use Rattle.std.specs.Prelude.{ℕ, ℤ, Bool, true, false, if◌then◌else◌, List, [], ◌∷◌, map, Option, Some, None}
use Rattle.std.specs.List.Sorted.{IsPermutation}
use Rattle.std.specs.Ordering.{int_cmp, is_lt}
use Rattle.sqlite.specs.declared.types.Value.{Value}
use Rattle.sqlite.specs.declared.types.Value.TheVariants.{Null, Int, Real, Text, Blob}
use Rattle.sqlite.specs.Order.{Row, column}
use Rattle.sqlite.specs.Effect.{Database}
use Rattle.sql_schema.specs.Keys.{columns}
use Rattle.sql_schema.specs.Inside.{IsInOrder}
use Rattle.sql_schema.specs.Layouts.{rows_named}

-- the rowids of a table, upwards
pub record ShowsRowids (name : List ℕ) (db : Database) (rows : List Row) : Type 0 where
  pub all : IsPermutation (map (columns (0 ∷ [])) (rows_named db name)) rows
  pub in_order : IsInOrder 0 rows

abbrev pub integer_in : Value → Option ℤ
integer_in Null = None
integer_in (Int n) = Some n
integer_in (Real x) = None
integer_in (Text t) = None
integer_in (Blob b) = None

-- above the last one, if there is one
abbrev pub is_above : Option ℤ → ℤ → Bool
is_above None n = true
is_above (Some m) n = is_lt (int_cmp m n)

-- the integer, if there is one and it is above the last
abbrev pub follows : Option ℤ → Option ℤ → Option ℤ
follows last None = None
follows last (Some n) = if is_above last n then Some n else None

abbrev pub goes_on : Option ℤ → (Option ℤ → Bool) → Bool
goes_on None more = false
goes_on (Some n) more = more (Some n)

-- each row shows an integer above that of the row before it
abbrev pub are_rising : Option ℤ → List Row → Bool
are_rising last [] = true
are_rising last (row ∷ rows) = goes_on (follows last (integer_in (column row 0))) (λ next. are_rising next rows)
