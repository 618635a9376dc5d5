-- Rows are taken out of a table.
use Rattle.std.specs.Prelude.{◌≡◌, ℕ, Bool, List}
use Rattle.sqlite.specs.Order.{Row}
use Rattle.sqlite.specs.Effect.{Database}
use Rattle.sql_laws.specs.ApartRows.{IsRemoved}
use Rattle.sql_schema.specs.Layouts.{rows_named, SparesOthers}

-- The rows of the table of this name that pass a test are gone, and all other rows are as they were.
pub record TakesRows (name : List ℕ) (test : Row → Bool) (old new : Database) : Type 0 where
  pub rows : IsRemoved test (rows_named old name) (rows_named new name)
  pub others : SparesOthers name (rows_named old) (rows_named new)
  pub schema : new.schema ≡ old.schema
