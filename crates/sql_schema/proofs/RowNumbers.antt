-- Keys that are rowids: rows with one rowid are one row.
use Rattle.std.proofs.Common.{◌≡◌, List, true, subst}
use Rattle.std.specs.Ordering.{is_eq}
use Rattle.std.specs.Cmp.{eq_by_cmp_equiv}
use Rattle.sqlite.specs.Order.{Row, value_cmp}
use Rattle.sqlite.specs.Tree.{rowid}
use Rattle.sqlite_value.proofs.OrderLemmas.{value_cmp_total}
use Rattle.sql_laws.specs.RowMaps.{OneEach}
use Rattle.sql_laws.specs.ApartRows.{AreApart}
use Rattle.sql_schema.specs.Keys.{row_number}

pub one_row_number : (rows : List Row) → AreApart rows → OneEach row_number rows
one_row_number rows apart r s in_r in_s e =
    apart.apart r s in_r in_s (subst (λ v. is_eq (value_cmp (rowid r) v) ≡ true) e ((eq_by_cmp_equiv value_cmp_total).refl (rowid r)))
