-- A row is added to a table.
use Rattle.std.specs.Prelude.{◌≢◌, ℕ, List}
use Rattle.sqlite.specs.Order.{Row}
use Rattle.sqlite.specs.Effect.{Database}
use Rattle.sqlite_rules.specs.Lists.{Has}
use Rattle.sql_schema.specs.Inside.{PutsRow}
use Rattle.sql_schema.specs.Layouts.{rows_named}

-- One row is put into the table of this name where no row had its key, and the other tables are as they were.
pub record AddsRow {K : Type 0} (name : List ℕ) (key : Row → K) (IsRow : Row → Type 0) (old new : Database) : Type 0 where
  pub puts : PutsRow name key IsRow old new
  pub fresh : (x : Row) → Has (rows_named old name) x → key x ≢ key puts.row
