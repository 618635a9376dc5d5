-- Maps of std under the names that definitions have for their keys and values.
use Rattle.std.proofs.Common.{◌≡◌, true, false, cond, List, [], ◌∷◌, Some, None, option_map, refl, sym, ap, ◌∙◌}
use Rattle.std.specs.declared.cmp.Ordering.{Ordering}
use Rattle.std.specs.declared.cmp.Ordering.TheVariants.{Less, Equal, Greater}
use Rattle.std.specs.Ordering.{is_eq, eq_by_cmp, match_ordering}
use Rattle.std.specs.Cmp.{IsTotalOrder, eq_by_cmp_equiv}
use Rattle.std.specs.Map.{lookup, remove_entry}
use Rattle.std.specs.BTreeMap.{BTreeMap, insert_entry, get_by, is_at}
use Rattle.std.specs.FinMap.{IsAntisymmetric, find, put, get, insert, remove, from_entries, get-from_entries, get-insert, get-remove, same_map}
use Rattle.std.specs.FinMap.Entries.{by_order, find-put}
use Rattle.office_maps.specs.MapEntries.{mapped}

equal : (r : Ordering) → is_eq r ≡ true → r ≡ Equal
equal Less e = cc
equal Equal e = refl
equal Greater e = cc

module _ {K X B Y : Type 0} (R : B → B → Ordering) (f : K → B) (g : X → Y) where
  find-mapped : (q : B) (es : List (K × X)) → find R q (mapped f g es) ≡ option_map g (lookup (λ k. is_eq (R q (f k))) es)
  find-mapped q [] = refl
  find-mapped q (e ∷ es) =
      elim (is_eq (R q (f e.0))) as (λ b. cond b (Some (g e.1)) (find R q (mapped f g es)) ≡ option_map g (cond b (Some e.1) (lookup (λ k. is_eq (R q (f k))) es))) [
        | true ↦ refl
        | false ↦ find-mapped q es
      ]

  put-mapped : (k : K) (v : X) (es : List (K × X)) → mapped f g (insert_entry (λ x y. R (f x) (f y)) es k v) ≡ put R (f k) (g v) (mapped f g es)
  put-mapped k v [] = refl
  put-mapped k v (e ∷ es) =
      elim (R (f k) (f e.0)) as (λ r.
      mapped f g (match_ordering r ((k, v) ∷ e ∷ es) ((e.0, v) ∷ es) (e ∷ insert_entry (λ x y. R (f x) (f y)) es k v))
      ≡ by_order r ((f k, g v) ∷ mapped f g (e ∷ es)) ((f e.0, g v) ∷ mapped f g es) ((f e.0, g e.1) ∷ put R (f k) (g v) (mapped f g es))) [
        | Less ↦ refl
        | Equal ↦ refl
        | Greater ↦ ap (λ xs. (f e.0, g e.1) ∷ xs) (put-mapped k v es)
      ]

  -- what is found
  pub get-mapped : IsTotalOrder R → (m : BTreeMap K X) (q : B) → get (from_entries {R = R} (mapped f g m.entries)) q ≡ option_map g (get_by (λ k. R q (f k)) m)
  get-mapped o m q = get-from_entries o (mapped f g m.entries) q ∙ find-mapped q m.entries

  -- an entry put in
  pub insert-mapped : IsTotalOrder R → IsAntisymmetric R → (m n : BTreeMap K X) (k : K) (v : X) → n.entries ≡ insert_entry (λ x y. R (f x) (f y)) m.entries k v
      → from_entries {R = R} (mapped f g n.entries) ≡ insert (from_entries (mapped f g m.entries)) (f k) (g v)
  insert-mapped o same m n k v e =
      same_map o same _ _ (λ q.
      get-from_entries o (mapped f g n.entries) q
      ∙ ap (λ es. find R q (mapped f g es)) e
      ∙ ap (find R q) (put-mapped k v m.entries)
      ∙ find-put R o q (f k) (g v) (mapped f g m.entries)
      ∙ sym (get-insert o (from_entries (mapped f g m.entries)) (f k) (g v) q
      ∙ ap (cond (is_eq (R q (f k))) (Some (g v))) (get-from_entries o (mapped f g m.entries) q)))

  -- an entry taken out, seen at another key
  find-removed : IsTotalOrder R → (p q : B) (es : List (K × X)) → eq_by_cmp R q p ≡ false
      → find R q (mapped f g (remove_entry (is_at (λ k. R p (f k))) es)) ≡ find R q (mapped f g es)
  find-removed o p q [] apart = refl
  find-removed o p q (e ∷ es) apart =
      elim (is_eq (R p (f e.0))) as (λ b. is_eq (R p (f e.0)) ≡ b
      → find R q (mapped f g (cond b es (e ∷ remove_entry (is_at (λ k. R p (f k))) es))) ≡ cond (is_eq (R q (f e.0))) (Some (g e.1)) (find R q (mapped f g es))) [
        | true ↦ λ h. sym (ap (λ b. cond b (Some (g e.1)) (find R q (mapped f g es))) (other h))
        | false ↦ λ h. ap (cond (is_eq (R q (f e.0))) (Some (g e.1))) (find-removed o p q es apart)
      ] refl
    where
      other : is_eq (R p (f e.0)) ≡ true → is_eq (R q (f e.0)) ≡ false
      other h =
          let laws = eq_by_cmp_equiv o in
          laws.symm q (f e.0) ∙ sym (laws.congr p (f e.0) q h) ∙ laws.symm p q ∙ apart

  -- an entry taken out
  pub remove-mapped : IsTotalOrder R → IsAntisymmetric R → (m n : BTreeMap K X) (p : B) → n.entries ≡ remove_entry (is_at (λ k. R p (f k))) m.entries
      → get_by (λ k. R p (f k)) n ≡ None → from_entries {R = R} (mapped f g n.entries) ≡ remove (from_entries (mapped f g m.entries)) p
  remove-mapped o same m n p e gone =
      same_map o same _ _ (λ q.
      elim (eq_by_cmp R q p) as (λ b. eq_by_cmp R q p ≡ b → get (from_entries {R = R} (mapped f g n.entries)) q ≡ cond b None (get (from_entries {R = R} (mapped f g m.entries)) q)) [
        | true ↦ λ h. get-mapped o n q ∙ ap (λ x. option_map g (get_by (λ k. R x (f k)) n)) (same q p (equal (R q p) h)) ∙ ap (option_map g) gone
        | false ↦ λ h.
            get-from_entries o (mapped f g n.entries) q ∙ ap (λ es. find R q (mapped f g es)) e ∙ find-removed o p q m.entries h ∙ sym (get-from_entries o (mapped f g m.entries) q)
      ] refl
      ∙ sym (get-remove o (from_entries (mapped f g m.entries)) p q))
