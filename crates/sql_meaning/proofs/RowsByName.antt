-- What statements make of a database, they make of its rows by the names of their tables.
use Rattle.std.proofs.Common.{ℕ, List}
use Rattle.sqlite.specs.Order.{Row}
use Rattle.sqlite.specs.Effect.{Database}
use Rattle.sql_schema.specs.Inside.{PutsRow, PutsIn}
use Rattle.sql_schema.specs.Layouts.{rows_named}

module _ {old new : Database} where
  pub puts_in : {K : Type 0} {name : List ℕ} {key : Row → K} {IsRow : Row → Type 0} → PutsRow name key IsRow old new → PutsIn name key IsRow (rows_named old) (rows_named new)
  puts_in it = record { row = it.row; is_row = it.is_row; put = it.put; others = it.others }
