-- A query that goes through the rows of one table, each with what else its text brings for it.
use Rattle.std.specs.Prelude.{ℕ, List, [], ◌∷◌, map, false}
use Rattle.sqlite.specs.Collation.TheVariants.{Binary}
use Rattle.sqlite.specs.declared.types.Value.{Value}
use Rattle.sqlite.specs.declared.types.Value.TheVariants.{Null}
use Rattle.sqlite.specs.Order.{Row, column}
use Rattle.sqlite.specs.Term.{Term, col}
use Rattle.sqlite_sql.specs.Query.{Join}
use Rattle.sqlite.specs.Query.{Query, inner}
use Rattle.sql_laws.specs.PlainQueries.{plain_query}

-- the rows of a table that pass the terms, each with what `more` brings for it, upwards by columns of the table
abbrev pub row_query : ℕ → Join → List Term → List Term → List ℕ → Query
row_query first more terms project by = record (plain_query first terms project) {
  from = inner first more;
  order = map (λ place. (col 1 place, record { collation = Binary; descending = false })) by;
}

-- the column at this place of the first of some rows, null where there is none
abbrev pub first_column : ℕ → List Row → Value
first_column place [] = Null
first_column place (row ∷ rows) = column row place
