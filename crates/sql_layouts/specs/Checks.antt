-- The tests of a table that constants tell. This project's own words.
use Rattle.std.specs.Prelude.{ℕ, ℤ}
use Rattle.sqlite.specs.Collation.TheVariants.{Binary}
use Rattle.sqlite.specs.declared.types.Value.TheVariants.{Int}
use Rattle.sqlite.specs.Term.{Term, lit, col, op2}
use Rattle.sqlite_sql.specs.declared.ops.BinaryOp.TheVariants.{Compare}
use Rattle.sqlite_sql.specs.declared.ops.CompareOp.{CompareOp}
use Rattle.sql_schema.specs.Schema.{is_between, is_not}
use Rattle.sql_layouts.specs.declared.table_checks.Check.{Check}
use Rattle.sql_layouts.specs.declared.table_checks.Check.TheVariants.{Between, Not}

-- the column at a place of the row beside a number
abbrev pub compared : CompareOp → ℕ → ℤ → Term
compared how place number = op2 (Compare how Binary) (col 1 place) (lit (Int number))

abbrev pub check_of : Check → Term
check_of (Between place low high) = is_between place low high
check_of (Not place number) = is_not place number
