-- What a walk over all sums shows of the votes on suggestions: the sum that is kept of them, and how many are for it and against it.
use Rattle.std.specs.Prelude.{◌&&◌, ℕ, ℤ, pos, negsuc, min, Bool, false, List, [], ◌∷◌, filter, length, map, codes}
use Rattle.std.specs.List.Sorted.{IsPermutation, IsSorted}
use Rattle.std.specs.Ordering.{int_eq}
use Rattle.sqlite.specs.declared.types.Value.{Value}
use Rattle.sqlite.specs.declared.types.Value.TheVariants.{Null, Int, Real, Text, Blob}
use Rattle.sqlite.specs.Order.{Row, column}
use Rattle.sqlite.specs.Effect.{Database}
use Rattle.sql_streams.specs.RowQueries.{first_column}
use Rattle.sql_schema.specs.Keys.{first_text, has_text}
use Rattle.sql_schema.specs.Layouts.{NamedRows, rows_named}
use Rattle.sql_statements.specs.Tables.{by_columns}

abbrev pub is_integer : ℤ → Value → Bool
is_integer n Null = false
is_integer n (Int m) = int_eq m n
is_integer n (Real x) = false
is_integer n (Text t) = false
is_integer n (Blob b) = false

-- a vote is on the suggestion of this number, and its value is this
abbrev pub is_counted : ℤ → List ℕ → Row → Bool
is_counted value number vote = has_text 1 number vote && is_integer value (column vote 3)

-- the votes of this value on the suggestion of this number
abbrev pub votes_counted : ℤ → List ℕ → List Row → ℕ
votes_counted value number votes = length (filter (is_counted value number) votes)

-- the most that SQL's count(*) tells
abbrev pub most_counted : ℕ
most_counted = 9223372036854775807

abbrev pub told : ℕ → Value
told count = Int (pos (min most_counted count))

-- of a suggestion: its number, the sum that is kept of the votes on it, how many of these are for it, and how many against
abbrev pub summed : NamedRows → Row → Row
summed tables s =
    column s 1 ∷ first_column 2 (filter (has_text 1 (first_text s)) (tables (codes "d_vote_sum"))) ∷ told (votes_counted (pos 1) (first_text s) (tables (codes "d_vote")))
    ∷ told (votes_counted (negsuc 0) (first_text s) (tables (codes "d_vote"))) ∷ []

-- of a sum: its suggestion's number, the sum, how many votes are for that suggestion, and how many against
abbrev pub sum_counted : NamedRows → Row → Row
sum_counted tables r =
    column r 1 ∷ column r 2 ∷ told (votes_counted (pos 1) (first_text r) (tables (codes "d_vote"))) ∷ told (votes_counted (negsuc 0) (first_text r) (tables (codes "d_vote"))) ∷ []

-- Of each sum these, in the order of the numbers.
pub record ShowsSummed (db : Database) (rows : List Row) : Type 0 where
  pub all : IsPermutation (map (sum_counted (rows_named db)) (rows_named db (codes "d_vote_sum"))) rows
  pub in_order : IsSorted (by_columns (0 ∷ [])) rows
