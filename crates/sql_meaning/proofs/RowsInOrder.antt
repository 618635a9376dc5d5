-- Rows in the order of a column of integers, each of which comes once: a map from that column has its values in the rows' order.
use Rattle.std.proofs.Common.{◌≡◌, inl, inr, ℕ, suc, ◌+◌, ℤ, List, [], ◌∷◌, map, true, false, T, refl, sym, ap, subst, ◌∙◌, arith}
use Rattle.std.proofs.lemmas.Bool.{and_parts, and_from}
use Rattle.std.specs.declared.cmp.Ordering.{Ordering}
use Rattle.std.specs.declared.cmp.Ordering.TheVariants.{Less, Equal, Greater}
use Rattle.std.specs.Ordering.{int_cmp, int_eq, is_eq, is_lt, ordering_reverse}
use Rattle.std.specs.Cmp.{int_cmp_total}
use Rattle.std.specs.List.{IsDistinct}
use Rattle.std.proofs.lemmas.Map.Keys.{IsDistinct-head, IsDistinct-tail}
use Rattle.std.specs.FinMap as maps
use Rattle.std.specs.FinMap.{int_cmp-IsAntisymmetric, is_sorted, entries-from_sorted, get-from_sorted, get-from_entries}
use Rattle.std.specs.FinMap.Entries.{below_all}
use Rattle.sqlite.specs.Order.{Row, column, value_cmp}
use Rattle.sqlite_value.proofs.OrderLemmas.{value_cmp-Int}
use Rattle.sqlite_trees.proofs.ListLemmas.{map-map}
use Rattle.sql_laws.specs.RowMaps.{IsFound}
use Rattle.sql_laws.proofs.RowMaps.{get-found}
use Rattle.sql_schema.specs.Inside.{IsInOrder}
use Rattle.sql_meaning.specs.Values.{integer_at}
use Rattle.sql_meaning.proofs.ShownMaps.{Answers}
use Rattle.sql_meaning.specs.RowKeys.{HoldsIntegers}

less_is : (o : Ordering) → is_lt o ≡ true → o ≡ Less
less_is Less e = refl
less_is Equal e = absurd cc
less_is Greater e = absurd cc

-- neither above nor tied
below : (o : Ordering) → is_lt (ordering_reverse o) ≡ false → is_eq o ≡ false → o ≡ Less
below Less up apart = refl
below Equal up apart = absurd cc
below Greater up apart = absurd cc

module _ {X : Type 0} (place : ℕ) (item : Row → X) where
  abbrev pub entry : Row → ℤ × X
  entry row = (integer_at place row, item row)

  -- what is below a number is below those above it
  below_more : (m n : ℤ) (es : List (ℤ × X)) → int_cmp m n ≡ Less → below_all int_cmp n es ≡ true → below_all int_cmp m es ≡ true
  below_more m n [] e h = refl
  below_more m n (x ∷ es) e h =
      let parts = and_parts _ _ h in
      and_from _ _ (ap is_lt (int_cmp_total.trans m n x.0 e (less_is _ parts.0))) (below_more m n es e parts.1)

  tail_in_order : (row : Row) (rows : List Row) → IsInOrder place (row ∷ rows) → IsInOrder place rows
  tail_in_order row rows up k d low high = let e : suc k + 1 ≡ suc (k + 1) = omega arith in rw e at (up (suc k) d (omega arith) (omega arith))

  next_below : (r s : Row) (rows : List Row) → IsInOrder place (r ∷ s ∷ rows) → HoldsIntegers place (r ∷ s ∷ rows)
      → IsDistinct int_eq (map (integer_at place) (r ∷ s ∷ rows)) → int_cmp (integer_at place r) (integer_at place s) ≡ Less
  next_below r s rows up ints once =
      let m = integer_at place r in
      let n = integer_at place s in
      let as_integers : value_cmp (column s place) (column r place) ≡ int_cmp n m = (λ i. value_cmp (ints s (inr (inl refl)) i) (ints r (inl refl) i)) ∙ value_cmp-Int n m in
      let not_less : is_lt (value_cmp (column s place) (column r place)) ≡ false = up 0 r (omega arith) (omega arith) in
      below (int_cmp m n) (ap is_lt (sym (as_integers ∙ int_cmp_total.antisymm n m)) ∙ not_less) (IsDistinct-head int_eq m _ once).0

  pub rises : (rows : List Row) → IsInOrder place rows → HoldsIntegers place rows → IsDistinct int_eq (map (integer_at place) rows)
      → is_sorted int_cmp (map entry rows) ≡ true
  rises [] up ints once = refl
  rises (r ∷ []) up ints once = refl
  rises (r ∷ s ∷ rows) up ints once =
      let rest = rises (s ∷ rows) (tail_in_order r (s ∷ rows) up) (λ row there. ints row (inr there)) (IsDistinct-tail int_eq _ _ once) in
      let step = next_below r s rows up ints once in
      and_from _ _ (and_from _ _ (ap is_lt step) (below_more _ _ (map entry rows) step (and_parts _ _ rest).0)) rest

  module _ (rows : List Row) (up : IsInOrder place rows) (ints : HoldsIntegers place rows) (once : IsDistinct int_eq (map (integer_at place) rows)) where
    sorted : T (is_sorted int_cmp (map entry rows))
    sorted = subst T (sym (rises rows up ints once)) tt

    abbrev pub in_order : maps.FinMap int_cmp X
    in_order = maps.from_sorted (map entry rows)

    pub in_order_answers : Answers int_cmp int_cmp_total int_cmp-IsAntisymmetric (integer_at place) item rows in_order
    in_order_answers q =
        subst (IsFound (integer_at place) item rows q) (get-from_entries int_cmp_total (map entry rows) q ∙ sym (get-from_sorted int_cmp (map entry rows) q sorted))
        (get-found int_cmp int_cmp_total int_cmp-IsAntisymmetric (integer_at place) item rows q)

    pub values_in_order : maps.values in_order ≡ map item rows
    values_in_order = ap (map (λ (e : ℤ × X). e.1)) (entries-from_sorted int_cmp (map entry rows) sorted) ∙ map-map (λ (e : ℤ × X). e.1) entry rows
