-- A unit's suggestions, as the rows of `suggestion` stand for them: what a query by language and key finds, in the order of the places.
use Rattle.std.proofs.Common.{◌≡◌, inl, inr, ℕ, false, List, [], ◌∷◌, map, filter, refl, sym, ap, subst, ◌∙◌, codes}
use Rattle.std.proofs.lemmas.Bool.{false_from_ne_true}
use Rattle.std.specs.declared.cmp.Ordering.TheVariants.{Equal}
use Rattle.std.specs.Ordering.{int_cmp, int_eq, is_eq}
use Rattle.std.specs.Cmp.{int_cmp_total, eq_by_cmp_equiv, Equal-is, tied_itself}
use Rattle.std.specs.List.{IsDistinct}
use Rattle.std.specs.List.Sorted.{IsPermutation}
use Rattle.std.proofs.lemmas.List.Sorted.{IsPermutation-map}
use Rattle.std.proofs.lemmas.Map.Keys.{IsDistinct-IsPermutation}
use Rattle.std.specs.FinMap as maps
use Rattle.std.specs.FinMap.{int_cmp-IsAntisymmetric}
use Rattle.sqlite.specs.Order.{Row, value_cmp}
use Rattle.sqlite.specs.Tree.{rowid}
use Rattle.sqlite_value.proofs.OrderLemmas.{value_cmp_total}
use Rattle.sqlite_trees.proofs.ListLemmas.{map-map, all-map, ascending-filter}
use Rattle.sqlite_rules.specs.Lists.{Has}
use Rattle.sqlite_rules.proofs.ListLemmas.{all_has, all_from, has_filtered}
use Rattle.sql_laws.specs.RowMaps.{OneEach}
use Rattle.sql_laws.specs.ApartRows.{AreOnce}
use Rattle.sql_laws.proofs.RemovedRows.{from_mapped, has_permuted}
use Rattle.po_text.specs.Texts.{Text}
use Rattle.sql_schema.specs.Keys.{is_on_unit, columns}
use Rattle.sql_schema.specs.Inside.{IsInOrder}
use Rattle.sql_meaning.specs.Values.{integer_at}
use Rattle.sql_meaning.specs.Meaning.{suggestion_of_row, suggestions_in}
use Rattle.sql_meaning.specs.Shown.{shown_suggestion}
use Rattle.sql_meaning.proofs.ShownMaps.{map_is}
use Rattle.sql_meaning.proofs.RowsInOrder.{in_order, in_order_answers, values_in_order}
use Rattle.sql_schema.specs.Layouts.{NamedRows}
use Rattle.sql_meaning.specs.RowKeys.{HoldsIntegers}

-- no row stands twice in a table, so integers that tell its rows apart come once
pub each_once : (place : ℕ) (rows : List Row) → AreOnce rows → OneEach (integer_at place) rows → IsDistinct int_eq (map (integer_at place) rows)
unfolding IsDistinct
each_once place [] up one = tt
each_once place (row ∷ rows) up one = (
  all-map (λ n. int_eq (integer_at place row) n ≡ false) (integer_at place) rows (all_from (λ r. int_eq (integer_at place row) (integer_at place r) ≡ false) rows apart),
  each_once place rows up.1 (λ r s in_r in_s e. one r s (inr in_r) (inr in_s) e),
)
  where
    apart : (r : Row) → Has rows r → int_eq (integer_at place row) (integer_at place r) ≡ false
    apart r there = false_from_ne_true _ (λ tied.
        let same : row ≡ r = one row r (inl refl) (inr there) (int_cmp-IsAntisymmetric _ _ ((Equal-is _).0 tied)) in
        let differ : is_eq (value_cmp (rowid row) (rowid r)) ≡ false = all_has (λ s. is_eq (value_cmp (rowid row) (rowid s)) ≡ false) rows r up.0 there in
        let itself : value_cmp (rowid row) (rowid r) ≡ Equal = subst (λ s. value_cmp (rowid row) (rowid s) ≡ Equal) same (tied_itself value_cmp_total (rowid row)) in
        cc)

module _ (tables : NamedRows) (lang key : Text) (rows : List Row) (table : AreOnce (tables (codes "suggestion"))) (ints : HoldsIntegers 4 (tables (codes "suggestion")))
    (one : OneEach (integer_at 4) (filter (is_on_unit lang key) (tables (codes "suggestion"))))
    (listed : IsPermutation (map (columns (1 ∷ 4 ∷ 5 ∷ 6 ∷ [])) (filter (is_on_unit lang key) (tables (codes "suggestion")))) rows) where
  abbrev all : List Row
  all = filter (is_on_unit lang key) (tables (codes "suggestion"))

  abbrev shown : Row → Row
  shown = columns (1 ∷ 4 ∷ 5 ∷ 6 ∷ [])

  shown_ints : HoldsIntegers 1 rows
  shown_ints row there =
      let from = from_mapped shown all row (has_permuted (map shown all) rows row listed there) in
      rw from.2 (ints from.0 (has_filtered (is_on_unit lang key) (tables (codes "suggestion")) from.0 from.1).0)

  shown_once : IsDistinct int_eq (map (integer_at 1) rows)
  shown_once = IsDistinct-IsPermutation int_eq (eq_by_cmp_equiv int_cmp_total).symm (map (integer_at 1) (map shown all)) (map (integer_at 1) rows)
      (IsPermutation-map (integer_at 1) (map shown all) rows listed)
      (subst (IsDistinct int_eq) (sym (map-map (integer_at 1) shown all)) (each_once 4 all (ascending-filter _ (is_on_unit lang key) (tables (codes "suggestion")) table) one))

  pub finds_suggestions : IsInOrder 1 rows → suggestions_in tables lang key ≡ map (shown_suggestion tables) rows
  finds_suggestions up =
      ap maps.values (map_is int_cmp int_cmp_total int_cmp-IsAntisymmetric (integer_at 4) (suggestion_of_row tables) shown (integer_at 1) (shown_suggestion tables) all rows
      (λ r there. refl) (λ r there. refl) listed (in_order 1 (shown_suggestion tables) rows up shown_ints shown_once) one
      (in_order_answers 1 (shown_suggestion tables) rows up shown_ints shown_once))
      ∙ values_in_order 1 (shown_suggestion tables) rows up shown_ints shown_once
