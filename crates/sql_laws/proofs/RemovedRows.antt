-- Rows are taken out by their rowids.
use Rattle.std.proofs.Common.{◌≡◌, inl, inr, ℤ, List, [], ◌∷◌, map, filter, Bool, true, false, not, refl, sym, ap, subst, ◌∙◌}
use Rattle.std.specs.Ordering.{is_eq}
use Rattle.std.specs.Cmp.{eq_by_cmp_equiv}
use Rattle.std.proofs.lemmas.Bool.{not-true, not_from_false, false_from_ne_true}
use Rattle.std.specs.List.Sorted.{IsPermutation}
use Rattle.std.proofs.lemmas.List.Sorted.{Contains-permutation, IsPermutation-sym}
use Rattle.sqlite.specs.declared.types.Value.TheVariants.{Int}
use Rattle.sqlite.specs.Order.{Row, value_cmp}
use Rattle.sqlite_value.proofs.OrderLemmas.{value_cmp_total}
use Rattle.sqlite.specs.Tree.{rowid}
use Rattle.sqlite_trees.specs.Tree.{has_rowid, without_rowid}
use Rattle.sqlite.specs.Term.{Term, col}
use Rattle.sqlite_rules.specs.Lists.{Has}
use Rattle.sqlite_rules.specs.Edit.{id_in, without_all}
use Rattle.sqlite_rules.specs.Calls.{ids_of}
use Rattle.sqlite_rules.proofs.ListLemmas.{has_filtered, has_kept, has_contained, contains_had}
use Rattle.sqlite_rules.proofs.TableLemmas.{int_is, without_all_has}
use Rattle.sql_laws.specs.ApartRows.{AreApart, IsRemoved, AreIdsOf}
use Rattle.sql_laws.specs.PlainQueries.{passes, shows}

pub from_mapped : {A B : Type 0} (f : A → B) (xs : List A) (y : B) → Has (map f xs) y → (x : A) × Has xs x × (y ≡ f x)
from_mapped f [] y h = absurd h
from_mapped f (x ∷ xs) y (inl same) = (x, inl refl, same)
from_mapped f (x ∷ xs) y (inr later) = let m = from_mapped f xs y later in (m.0, inr m.1, m.2)

pub to_mapped : {A B : Type 0} (f : A → B) (xs : List A) (x : A) → Has xs x → Has (map f xs) (f x)
to_mapped f [] x h = absurd h
to_mapped f (y ∷ xs) x (inl same) = inl (ap f same)
to_mapped f (y ∷ xs) x (inr later) = inr (to_mapped f xs x later)

pub has_permuted : {X : Type 0} (xs ys : List X) (x : X) → IsPermutation xs ys → Has ys x → Has xs x
has_permuted xs ys x p h = has_contained xs x (Contains-permutation ys xs x (IsPermutation-sym xs ys p) (contains_had ys x h))

pub kept_without : (ids : List ℤ) (rows : List Row) (x : Row) → Has rows x → ((id : ℤ) → Has ids id → has_rowid id x ≡ false)
    → Has (without_all rows ids) x
kept_without [] rows x h free = h
kept_without (id ∷ ids) rows x h free =
    kept_without ids (without_rowid id rows) x (has_kept (λ r. not (has_rowid id r)) rows x h (not_from_false _ (free id (inl refl)))) (λ j there. free j (inr there))

pub dropped_without : (ids : List ℤ) (rows : List Row) (x : Row) (id : ℤ) → Has (without_all rows ids) x → Has ids id
    → has_rowid id x ≡ false
dropped_without [] rows x id h there = absurd there
dropped_without (j ∷ ids) rows x id h (inl same) =
    let here = has_filtered (λ r. not (has_rowid j r)) rows x (without_all_has ids (without_rowid j rows) x h) in
    subst (λ k. has_rowid k x ≡ false) (sym same) (not-true _ here.1)
dropped_without (j ∷ ids) rows x id h (inr later) = dropped_without ids (without_rowid j rows) x id h later

pub is_removed : (test : Row → Bool) (old : List Row) (ids : List ℤ) → AreApart old → AreIdsOf test old ids
    → IsRemoved test old (without_all old ids)
is_removed test old ids apart are = record {
  only = λ x h. let was = without_all_has ids old x h in (
    was,
    false_from_ne_true (test x) (λ e.
        let whole = int_is (rowid x) (apart.ints x was) in
        let free = dropped_without ids old x (id_in (rowid x)) h (are.complete x (id_in (rowid x)) was e whole) in
        let same : is_eq (value_cmp (rowid x) (Int (id_in (rowid x)))) ≡ true = subst (λ v. is_eq (value_cmp (rowid x) v) ≡ true) whole ((eq_by_cmp_equiv value_cmp_total).refl (rowid x)) in
        cc),
  );
  kept = λ x h out. kept_without ids old x h (λ id there. false_from_ne_true (has_rowid id x) (λ e.
      let m = are.sound id there in
      let one = apart.apart x m.0 h m.1 (subst (λ v. is_eq (value_cmp (rowid x) v) ≡ true) (sym m.3) e) in
      let passed : test x ≡ true = rw one m.2 in cc));
}

-- the ids that a query gives
pub are_ids_of_answer : (params : Row) (terms : List Term) (old rows : List Row) → AreApart old
    → IsPermutation (map (shows params (col 1 0 ∷ [])) (filter (passes params terms) old)) rows
    → AreIdsOf (passes params terms) old (ids_of rows)
are_ids_of_answer params terms old rows apart answer = record {
  sound = λ id there.
      let shown = from_mapped (λ r. id_in (rowid r)) rows id there in
      let back = from_mapped (shows params (col 1 0 ∷ [])) _ shown.0 (has_permuted _ rows shown.0 answer shown.1) in
      let was = has_filtered (passes params terms) old back.0 back.1 in
      let id_is : id ≡ id_in (rowid back.0) = shown.2 ∙ ap (λ r. id_in (rowid r)) back.2 in
      (back.0, was.0, was.1, int_is (rowid back.0) (apart.ints back.0 was.0) ∙ ap Int (sym id_is));
  complete = λ r id here passed is.
      let shown = has_permuted rows _ (shows params (col 1 0 ∷ []) r) (IsPermutation-sym _ rows answer) (to_mapped (shows params (col 1 0 ∷ [])) _ r (has_kept (passes params terms) old r here passed)) in
      subst (Has (ids_of rows)) (ap id_in is) (to_mapped (λ r. id_in (rowid r)) rows (shows params (col 1 0 ∷ []) r) shown);
}
