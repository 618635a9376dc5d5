-- A map that is made of the rows which a query shows, in the place of the rows themselves.
use Rattle.std.proofs.Common.{◌≡◌, ◌⊎◌, inl, inr, List, [], ◌∷◌, map, fold, true, false, cond, Option, Some, None, refl, sym, ap, subst, ◌∙◌}
use Rattle.std.specs.declared.cmp.Ordering.{Ordering}
use Rattle.std.specs.Ordering.{eq_by_cmp}
use Rattle.std.specs.Cmp.{IsTotalOrder, Equal-is, eq_by_cmp_equiv}
use Rattle.std.specs.List.Sorted.{IsPermutation}
use Rattle.std.proofs.lemmas.List.Sorted.{IsPermutation-sym}
use Rattle.std.specs.FinMap as maps
use Rattle.std.specs.FinMap.{IsAntisymmetric, get-empty, get-insert, same_map}
use Rattle.sqlite.specs.Order.{Row}
use Rattle.sqlite_rules.specs.Lists.{Has}
use Rattle.sql_laws.specs.RowMaps.{OneEach, IsFound, map_of}
use Rattle.sql_laws.proofs.RowMaps.{get-is}
use Rattle.sql_laws.proofs.RemovedRows.{from_mapped, to_mapped, has_permuted}

-- the map that the rows make, inserted one after the other
abbrev pub inserted : {K X : Type 0} {R : K → K → Ordering} → (Row → K) → (Row → X) → List Row → maps.FinMap R X
inserted key item rows = fold (λ m row. maps.insert m (key row) (item row)) maps.empty rows

module _ {K X : Type 0} (R : K → K → Ordering) (total : IsTotalOrder R) (same : IsAntisymmetric R) where
  -- a map answers with what the rows hold
  abbrev pub Answers : (Row → K) → (Row → X) → List Row → maps.FinMap R X → Type 0
  Answers key item rows m = (q : K) → IsFound key item rows q (maps.get m q)

  -- the rows of a table, and what a query shows of each
  module _ (place : Row → K) (value : Row → X) (shown : Row → Row) (key : Row → K) (item : Row → X) (all rows : List Row)
      (keyed : (r : Row) → Has all r → key (shown r) ≡ place r) (valued : (r : Row) → Has all r → item (shown r) ≡ value r)
      (listed : IsPermutation (map shown all) rows) where
    in_table : (q : K) (a : Option X) → IsFound key item rows q a → IsFound place value all q a
    in_table q (Some x) f =
        let from = from_mapped shown all f.0 (has_permuted (map shown all) rows f.0 listed f.1) in
        (from.0, from.1, sym (keyed from.0 from.1) ∙ ap key (sym from.2) ∙ f.2, sym (valued from.0 from.1) ∙ ap item (sym from.2) ∙ f.3)
    in_table q None f = λ r there e.
        f (shown r) (has_permuted rows (map shown all) (shown r) (IsPermutation-sym (map shown all) rows listed) (to_mapped shown all r there)) (keyed r there ∙ e)

    pub map_is : (m : maps.FinMap R X) → OneEach place all → Answers key item rows m → map_of R place value all ≡ m
    map_is m one answers = same_map total same _ _ (λ q. get-is R total same place value all q _ one (in_table q _ (answers q)))

  -- ---- rows inserted one after the other

  module _ (key : Row → K) (item : Row → X) where
    abbrev with_row : maps.FinMap R X → Row → maps.FinMap R X
    with_row m row = maps.insert m (key row) (item row)

    -- the map holds what a row put there, or no row has the key and it is as it was
    abbrev Last : List Row → maps.FinMap R X → K → Type 0
    Last rows m q =
        ((r : Row) × Has rows r × (key r ≡ q) × (maps.get (fold with_row m rows) q ≡ Some (item r)))
        ⊎ (((r : Row) → Has rows r → key r ≡ q → ⊥) × (maps.get (fold with_row m rows) q ≡ maps.get m q))

    last : (rows : List Row) (m : maps.FinMap R X) (q : K) → Last rows m q
    last [] m q = inr (λ r there e. there, refl)
    last (row ∷ rows) m q = elim (last rows (with_row m row) q) [
      | inl later ↦ inl (later.0, inr later.1, later.2, later.3)
      | inr none ↦ elim (eq_by_cmp R q (key row)) as (λ b. eq_by_cmp R q (key row) ≡ b → Last (row ∷ rows) m q) [
        | true ↦ λ e. inl (row, inl refl, sym (same q (key row) ((Equal-is (R q (key row))).0 e)), none.1 ∙ get-insert total m (key row) (item row) q ∙ ap (λ b. cond b (Some (item row)) (maps.get m q)) e)
        | false ↦ λ e. inr (
          λ r there is. elim there [
            | inl here ↦ let one = (eq_by_cmp_equiv total).refl q in let two = subst (λ k. eq_by_cmp R q k ≡ false) (ap key (sym here) ∙ is) e in cc
            | inr later ↦ none.0 r later is
          ],
          none.1 ∙ get-insert total m (key row) (item row) q ∙ ap (λ b. cond b (Some (item row)) (maps.get m q)) e,
        )
      ] refl
    ]

    pub inserted_answers : (rows : List Row) → Answers key item rows (inserted key item rows)
    inserted_answers rows q = elim (last rows maps.empty q) [
      | inl f ↦ subst (IsFound key item rows q) (sym f.3) (f.0, f.1, f.2, refl)
      | inr none ↦ subst (IsFound key item rows q) (sym (none.1 ∙ get-empty R q)) none.0
    ]
