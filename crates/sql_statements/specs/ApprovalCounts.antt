-- What the look at approved units shows: of each domain how many there are, and how many of these are at the last revision.
use Rattle.std.specs.Prelude.{◌&&◌, ℕ, pos, Bool, List, [], ◌∷◌, filter, length, map, codes}
use Rattle.std.specs.List.Sorted.{IsPermutation}
use Rattle.sqlite.specs.Order.{Row, column}
use Rattle.sqlite.specs.Effect.{Database}
use Rattle.sql_schema.specs.Keys.{first_text, has_text}
use Rattle.sql_schema.specs.Layouts.{NamedRows, rows_named}
use Rattle.sql_statements.specs.SummedVotes.{is_integer, told}

-- the row of an approved unit of the domain of this name
abbrev pub is_approved_row : List ℕ → Row → Bool
is_approved_row name unit = has_text 1 name unit && is_integer (pos 3) (column unit 6)

-- and at the last revision
abbrev pub is_last_row : List ℕ → Row → Bool
is_last_row name unit = has_text 1 name unit && (is_integer (pos 3) (column unit 6) && is_integer (pos 9000000000000000) (column unit 8))

abbrev pub rows_counted : (Row → Bool) → NamedRows → ℕ
rows_counted test tables = length (filter test (tables (codes "d_unit")))

abbrev pub approvals_counted : NamedRows → Row → Row
approvals_counted tables domain = told (rows_counted (is_approved_row (first_text domain)) tables) ∷ told (rows_counted (is_last_row (first_text domain)) tables) ∷ []

abbrev pub ShowsApprovals : Database → List Row → Type 0
ShowsApprovals db rows = IsPermutation (map (approvals_counted (rows_named db)) (rows_named db (codes "domain"))) rows
