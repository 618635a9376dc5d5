-- The entries of a map that rows make are those of the rows, where each has a key of its own and stands once: as many pass a test.
use Rattle.std.proofs.Common.{◌≡◌, suc, List, [], ◌∷◌, map, filter, length, Bool, true, false, ◌&&◌, cond, Some, None, inl, inr, refl, sym, ap, subst, ◌∙◌, arith}
use Rattle.std.specs.declared.cmp.Ordering.{Ordering}
use Rattle.std.specs.declared.cmp.Ordering.TheVariants.{Less, Equal, Greater}
use Rattle.std.specs.Ordering.{is_eq}
use Rattle.std.specs.Cmp.{IsTotalOrder}
use Rattle.std.specs.FinMap as maps
use Rattle.std.specs.FinMap.{IsAntisymmetric, entries-insert, get-entries, len-entries, len-empty}
use Rattle.std.specs.FinMap.Entries.{put, by_order}
use Rattle.std.specs.List.Sorted.{IsPermutation}
use Rattle.std.proofs.lemmas.List.Sorted.{IsPermutation-refl, IsPermutation-sym, IsPermutation-cons, IsPermutation-map, IsPermutation-middle, IsPermutation-trans, sum_by-IsPermutation}
use Rattle.std.proofs.lemmas.List.Sums.{length-filter}
use Rattle.sqlite.specs.Order.{Row, value_cmp}
use Rattle.sqlite.specs.Tree.{rowid}
use Rattle.sqlite_rules.specs.Lists.{Has}
use Rattle.sqlite_rules.proofs.ListLemmas.{all_has, all_from, has_filtered}
use Rattle.sql_laws.specs.ApartRows.{AreOnce}
use Rattle.sql_laws.specs.RowMaps.{OneEach, map_of}
use Rattle.sql_laws.proofs.RowMaps.{get-is}
use Rattle.sql_statements.proofs.OnePassing.{not_later}

one_more : {X Y : Type 0} (b : Bool) (x : X) (y : Y) (xs : List X) (ys : List Y) → length xs ≡ length ys → length (cond b (x ∷ xs) xs) ≡ length (cond b (y ∷ ys) ys)
one_more true x y xs ys e = ap suc e
one_more false x y xs ys e = e

none_of_length : {X : Type 0} (xs : List X) → length xs ≡ 0 → xs ≡ []
none_of_length [] e = refl
none_of_length (x ∷ xs) e = absurd (omega arith)

-- rows that pass a test stand once where all do
pub once_filtered : (test : Row → Bool) (rows : List Row) → AreOnce rows → AreOnce (filter test rows)
once_filtered test [] once = tt
once_filtered test (row ∷ rows) once =
    elim (test row) as (λ b. AreOnce (cond b (row ∷ filter test rows) (filter test rows))) [
      | true ↦ (
        all_from (λ s. is_eq (value_cmp (rowid row) (rowid s)) ≡ false) (filter test rows) (λ s there. all_has (λ s. is_eq (value_cmp (rowid row) (rowid s)) ≡ false) rows s once.0 (has_filtered test rows s there).0),
        once_filtered test rows once.1,
      )
      | false ↦ once_filtered test rows once.1
    ]

-- the rows that pass two tests are those of the one that pass the other
pub filtered_both : (p q : Row → Bool) (rows : List Row) → length (filter (λ row. p row && q row) rows) ≡ length (filter q (filter p rows))
filtered_both p q [] = refl
filtered_both p q (row ∷ rows) =
    elim (p row) as (λ a. length (cond (a && q row) (row ∷ filter (λ row. p row && q row) rows) (filter (λ row. p row && q row) rows)) ≡ length (filter q (cond a (row ∷ filter p rows) (filter p rows)))) [
      | true ↦ one_more (q row) row row (filter (λ row. p row && q row) rows) (filter q (filter p rows)) (filtered_both p q rows)
      | false ↦ filtered_both p q rows
    ]

pub all_pass : {X : Type 0} (xs : List X) → filter (λ x. true) xs ≡ xs
all_pass [] = refl
all_pass (x ∷ xs) = ap (λ more. x ∷ more) (all_pass xs)

pub mapped_passing : {X Y : Type 0} (p : Y → Bool) (f : X → Y) (xs : List X) → length (filter p (map f xs)) ≡ length (filter (λ x. p (f x)) xs)
mapped_passing p f [] = refl
mapped_passing p f (x ∷ xs) = one_more (p (f x)) (f x) x (filter p (map f xs)) (filter (λ x. p (f x)) xs) (mapped_passing p f xs)

mapped_twice : {X Y Z : Type 0} (g : Y → Z) (f : X → Y) (xs : List X) → map g (map f xs) ≡ map (λ x. g (f x)) xs
mapped_twice g f [] = refl
mapped_twice g f (x ∷ xs) = ap (λ ys. g (f x) ∷ ys) (mapped_twice g f xs)

module _ {K X : Type 0} (R : K → K → Ordering) (total : IsTotalOrder R) (same : IsAntisymmetric R) (key : Row → K) (value : Row → X) where
  -- what is put at a key that isn't there stands somewhere among the others
  put_permuted : (k : K) (v : X) (es : List (K × X)) → maps.find R k es ≡ None → IsPermutation ((k, v) ∷ es) (put R k v es)
  put_permuted k v [] none = IsPermutation-refl ((k, v) ∷ [])
  put_permuted k v (e ∷ es) none =
      elim (R k e.0) as (λ o. cond (is_eq o) (Some e.1) (maps.find R k es) ≡ None → IsPermutation ((k, v) ∷ e ∷ es) (by_order o ((k, v) ∷ e ∷ es) ((e.0, v) ∷ es) (e ∷ put R k v es))) [
        | Less ↦ λ h. IsPermutation-refl ((k, v) ∷ e ∷ es)
        | Equal ↦ λ h. absurd cc
        | Greater ↦ λ h.
            IsPermutation-trans ((k, v) ∷ e ∷ es) (e ∷ (k, v) ∷ es) (e ∷ put R k v es)
            (IsPermutation-sym (e ∷ (k, v) ∷ es) ((k, v) ∷ e ∷ es) (IsPermutation-middle (e ∷ []) (k, v) es))
            (IsPermutation-cons e ((k, v) ∷ es) (put R k v es) (put_permuted k v es h))
      ] none

  pub entries_permuted : (rows : List Row) → AreOnce rows → OneEach key rows → IsPermutation (map (λ row. (key row, value row)) rows) (maps.entries (map_of R key value rows))
  entries_permuted [] once one = subst (IsPermutation []) (sym (none_of_length (maps.entries maps.empty) (sym (len-entries maps.empty) ∙ len-empty R X))) (IsPermutation-refl [])
  entries_permuted (row ∷ rows) once one =
      let es : List (K × X) = maps.entries (map_of R key value rows) in
      let listed : List (K × X) = map (λ row. (key row, value row)) rows in
      let none : maps.find R (key row) es ≡ None =
      sym (get-entries (map_of R key value rows) (key row))
      ∙ get-is R total same key value rows (key row) None (λ r s in_r in_s. one r s (inr in_r) (inr in_s)) (λ r there e. not_later row rows once (subst (Has rows) (one r row (inr there) (inl refl) e) there)) in
      subst (IsPermutation ((key row, value row) ∷ listed)) (sym (entries-insert total (map_of R key value rows) (key row) (value row)))
      (IsPermutation-trans ((key row, value row) ∷ listed) ((key row, value row) ∷ es) (put R (key row) (value row) es)
      (IsPermutation-cons (key row, value row) listed es (entries_permuted rows once.1 (λ r s in_r in_s. one r s (inr in_r) (inr in_s)))) (put_permuted (key row) (value row) es none))

  pub values_permuted : (rows : List Row) → AreOnce rows → OneEach key rows → IsPermutation (map value rows) (maps.values (map_of R key value rows))
  values_permuted rows once one =
      subst (λ l. IsPermutation l (maps.values (map_of R key value rows))) (mapped_twice (λ (e : K × X). e.1) (λ row. (key row, value row)) rows)
      (IsPermutation-map (λ (e : K × X). e.1) (map (λ row. (key row, value row)) rows) (maps.entries (map_of R key value rows)) (entries_permuted rows once one))

  pub passing_entries : (p : K × X → Bool) (rows : List Row) → AreOnce rows → OneEach key rows → length (filter p (maps.entries (map_of R key value rows))) ≡ length (filter (λ row. p (key row, value row)) rows)
  passing_entries p rows once one =
      length-filter p (maps.entries (map_of R key value rows))
      ∙ sum_by-IsPermutation (λ e. cond (p e) 1 0) (map (λ row. (key row, value row)) rows) (maps.entries (map_of R key value rows)) (entries_permuted rows once one)
      ∙ sym (length-filter p (map (λ row. (key row, value row)) rows))
      ∙ mapped_passing p (λ row. (key row, value row)) rows

  pub passing : (p : X → Bool) (rows : List Row) → AreOnce rows → OneEach key rows → length (filter p (maps.values (map_of R key value rows))) ≡ length (filter (λ row. p (value row)) rows)
  passing p rows once one = mapped_passing p (λ e. e.1) (maps.entries (map_of R key value rows)) ∙ passing_entries (λ e. p e.1) rows once one
