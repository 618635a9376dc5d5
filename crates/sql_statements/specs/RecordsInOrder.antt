-- What is read of the records in the order in which the office took them, which is that of their rowids: a record's row is never changed
-- nor taken away.
use Rattle.std.specs.Prelude.{ℕ, ℤ, Bool, true, List, [], ◌∷◌, Option, Some, None, codes}
use Rattle.std.specs.Ordering.{is_gt}
use Rattle.sqlite.specs.declared.types.Value.TheVariants.{Int}
use Rattle.sqlite.specs.Order.{Row, value_cmp}
use Rattle.sqlite.specs.Effect.{Database}
use Rattle.sql_schema.specs.Keys.{first_text, row_number, columns}
use Rattle.sql_schema.specs.Inside.{ShowsKey, ShowsAll, IsInOrder}

-- the rowid: the record's place
abbrev pub ShowsPlace : List ℕ → Database → Option Row → Type 0
ShowsPlace = ShowsKey (codes "record") first_text (columns (0 ∷ []))

-- whether a record stands behind a place, or whether it is there where none is told
abbrev pub is_behind : Option ℤ → Row → Bool
is_behind None row = true
is_behind (Some place) row = is_gt (value_cmp (row_number row) (Int place))

-- Each record behind a place, in order: its number, its status, its place.
pub record ShowsBehind (place : Option ℤ) (db : Database) (rows : List Row) : Type 0 where
  pub all : ShowsAll (codes "record") (is_behind place) (columns (1 ∷ 3 ∷ 0 ∷ [])) db rows
  pub in_order : IsInOrder 2 rows
