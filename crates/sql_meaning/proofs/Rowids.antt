-- Rows with rowids that are apart are told apart by them as integers.
use Rattle.std.proofs.Common.{◌≡◌, List, true, refl, sym, ap, ◌∙◌}
use Rattle.sqlite.specs.declared.types.Value.{Value}
use Rattle.sqlite.specs.declared.types.Value.TheVariants.{Null, Int, Real, Text as Words, Blob}
use Rattle.sqlite.specs.Order.{Row}
use Rattle.sqlite_trees.specs.View.{is_int}
use Rattle.sql_laws.specs.RowMaps.{OneEach}
use Rattle.sql_laws.specs.ApartRows.{AreApart}
use Rattle.sql_schema.specs.Keys.{row_number}
use Rattle.sql_schema.proofs.RowNumbers.{one_row_number}
use Rattle.sql_meaning.specs.Values.{integer_of, integer_at}

pub integer_is : (v : Value) → is_int v ≡ true → v ≡ Int (integer_of v)
integer_is (Int n) e = refl
integer_is Null e = absurd cc
integer_is (Real x) e = absurd cc
integer_is (Words t) e = absurd cc
integer_is (Blob b) e = absurd cc

pub one_rowid : (rows : List Row) → AreApart rows → OneEach (integer_at 0) rows
one_rowid rows apart r s in_r in_s e =
    one_row_number rows apart r s in_r in_s (integer_is (row_number r) (apart.ints r in_r) ∙ ap Int e ∙ sym (integer_is (row_number s) (apart.ints s in_s)))
