-- Rows in the order of several columns: those that are alike in the first two stand in the order of the third.
use Rattle.std.proofs.Common.{◌≡◌, ℕ, suc, ◌+◌, ◌<◌, List, [], ◌∷◌, map, filter, fold, length, get_or, Bool, false, refl, sym, ap, subst, ◌∙◌, arith}
use Rattle.std.specs.declared.cmp.Ordering.{Ordering}
use Rattle.std.specs.declared.cmp.Ordering.TheVariants.{Equal}
use Rattle.std.specs.Ordering.{is_lt, ordering_then}
use Rattle.std.specs.Cmp.{IsTotalOrder, tied_itself}
use Rattle.std.specs.List.Sorted.{IsPermutation, IsSorted}
use Rattle.std.proofs.lemmas.Cmp.{on_total, then_total}
use Rattle.std.proofs.lemmas.List.{length-map, get_or-map, get_or_default}
use Rattle.std.proofs.lemmas.List.Elements.{recursion_from_All}
use Rattle.std.proofs.lemmas.List.Sorted.{IsPermutation-map, ranks_by, sorted_far}
use Rattle.sqlite.specs.declared.types.Value.{Value}
use Rattle.sqlite.specs.Order.{Row, column, value_cmp}
use Rattle.sqlite_value.proofs.OrderLemmas.{value_cmp_total, then-Equal}
use Rattle.sqlite_trees.specs.Tree.{IsAscending}
use Rattle.sqlite_trees.proofs.ListLemmas.{map-map, filter-map, IsPermutation-filter, ascending-filter, ascending-get_or}
use Rattle.sqlite_rules.specs.Lists.{Has}
use Rattle.sqlite_rules.proofs.ListLemmas.{has_at}
use Rattle.sql_schema.specs.Inside.{IsInOrder}
use Rattle.sql_statements.specs.Tables.{by_columns}
use Rattle.sql_schema.proofs.Layouts.{listed}

-- ---- rows that are kept, and cut

pub kept_listed : (shown cut : Row → Row) (test : Row → Bool) (all rows : List Row) → IsPermutation (map shown all) rows
    → IsPermutation (map (λ r. cut (shown r)) (filter (λ r. test (shown r)) all)) (map cut (filter test rows))
kept_listed shown cut test all rows listed =
    let kept = subst (λ l. IsPermutation l (filter test rows)) (filter-map test shown all) (IsPermutation-filter test (map shown all) rows listed) in
    subst (λ l. IsPermutation l (map cut (filter test rows))) (map-map cut shown (filter (λ r. test (shown r)) all)) (IsPermutation-map cut _ _ kept)

pub fold_mapped : {A B M : Type 0} (step : M → B → M) (f : A → B) (m : M) (xs : List A) → fold step m (map f xs) ≡ fold (λ n x. step n (f x)) m xs
fold_mapped step f m [] = refl
fold_mapped step f m (x ∷ xs) = fold_mapped step f (step m (f x)) xs

-- ---- the order by columns

no_columns : IsTotalOrder (by_columns [])
no_columns = record { antisymm = λ x y. refl; trans = λ x y z less more. less; congr = λ x y z tied. refl }

by_columns_total : (places : List ℕ) → IsTotalOrder (by_columns places)
by_columns_total [] = no_columns
by_columns_total (place ∷ places) = then_total (on_total (λ row. column row place) value_cmp_total) (by_columns_total places)

-- the second isn't below the first
abbrev Follows : (Row → Row → Ordering) → Row → Row → Type 0
Follows by a b = is_lt (by b a) ≡ false

each_later : {X : Type 0} (R : X → X → Type 0) (xs : List X) → ((i j : ℕ) (d : X) → i < j → j < length xs → R (get_or xs i d) (get_or xs j d)) → IsAscending R xs
each_later R [] follows = tt
each_later R (x ∷ xs) follows = (
  recursion_from_All (R x) xs (λ j d below. follows 0 (suc j) d (omega arith) (omega arith)),
  each_later R xs (λ i j d less below. follows (suc i) (suc j) d (omega arith) (omega arith)),
)

pub ascends : (places : List ℕ) (rows : List Row) → IsSorted (by_columns places) rows → IsAscending (Follows (by_columns places)) rows
ascends places rows sorted =
    each_later (Follows (by_columns places)) rows (λ i j d less below.
    sorted_far (λ x y. is_lt (by_columns places x y)) (ranks_by (by_columns_total places) (λ (r : Row). r)) rows sorted i j d (omega arith) below)

-- ---- one column's order

pub in_order_of_one : (place : ℕ) (rows : List Row) → IsSorted (by_columns (place ∷ [])) rows → IsInOrder place rows
in_order_of_one place rows sorted k d low high = ap is_lt (sym (then-Equal _)) ∙ sorted k d low high

-- rows that are cut keep the order of a column that stays
pub cut_in_order : (cut : Row → Row) (place : ℕ) (rows : List Row) → ((r : Row) → column (cut r) place ≡ column r place) → IsInOrder place rows → IsInOrder place (map cut rows)
cut_in_order cut place rows same up k d low high =
    let long : length (map cut rows) ≡ length rows = length-map rows cut in
    rw (at (k + 1) (omega arith), at k (omega arith)) (up k [] low (omega arith))
  where
    at : (i : ℕ) → i < length rows → column (get_or (map cut rows) i d) place ≡ column (get_or rows i []) place
    at i below = ap (λ row. column row place) (get_or-map cut rows i [] d below) ∙ same (get_or rows i [])

module _ (first second third : ℕ) where
  third_orders : (a b : Row) → column b first ≡ column a first → column b second ≡ column a second → Follows (by_columns (first ∷ second ∷ third ∷ [])) a b
      → is_lt (value_cmp (column b third) (column a third)) ≡ false
  third_orders a b one two follows =
      let last : Ordering = ordering_then (value_cmp (column b third) (column a third)) Equal in
      let tied_first : value_cmp (column b first) (column a first) ≡ Equal = subst (λ v. value_cmp v (column a first) ≡ Equal) (sym one) (tied_itself value_cmp_total (column a first)) in
      let tied_second : value_cmp (column b second) (column a second) ≡ Equal = subst (λ v. value_cmp v (column a second) ≡ Equal) (sym two) (tied_itself value_cmp_total (column a second)) in
      let rest : is_lt (ordering_then (value_cmp (column b second) (column a second)) last) ≡ false =
      subst (λ o. is_lt (ordering_then o (ordering_then (value_cmp (column b second) (column a second)) last)) ≡ false) tied_first follows in
      let own : is_lt last ≡ false = subst (λ o. is_lt (ordering_then o last) ≡ false) tied_second rest in
      ap is_lt (sym (then-Equal _)) ∙ own

  pub alike_in_order : (x y : Value) (rows : List Row) → ((r : Row) → Has rows r → (column r first ≡ x) × (column r second ≡ y))
      → IsAscending (Follows (by_columns (first ∷ second ∷ third ∷ []))) rows → IsInOrder third rows
  alike_in_order x y rows alike up k d low high =
      let a = alike (get_or rows k d) (there k (omega arith)) in
      let b = alike (get_or rows (k + 1) d) (there (k + 1) high) in
      third_orders (get_or rows k d) (get_or rows (k + 1) d) (b.0 ∙ sym a.0) (b.1 ∙ sym a.1)
      (ascending-get_or (Follows (by_columns (first ∷ second ∷ third ∷ []))) rows k (k + 1) d up (omega arith) high)
    where
      there : (i : ℕ) → i < length rows → Has rows (get_or rows i d)
      there i below = has_at rows i _ below (get_or_default rows i _ _ below)

  -- also where only some of the rows are kept
  pub kept_in_order : (x y : Value) (test : Row → Bool) (rows : List Row) → ((r : Row) → Has (filter test rows) r → (column r first ≡ x) × (column r second ≡ y))
      → IsSorted (by_columns (first ∷ second ∷ third ∷ [])) rows → IsInOrder third (filter test rows)
  kept_in_order x y test rows alike sorted =
      alike_in_order x y (filter test rows) alike (ascending-filter (Follows (by_columns (first ∷ second ∷ third ∷ []))) test rows (ascends (first ∷ second ∷ third ∷ []) rows sorted))
