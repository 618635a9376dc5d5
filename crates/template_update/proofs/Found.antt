-- An index after one more of a list.
use Rattle.std.proofs.Common.{◌≡◌, true, false, cond, is_some, List, [], ◌∷◌, ◌++◌, Option, Some, None, Bor, refl, sym, ap, ◌∙◌}
use Rattle.std.specs.Option.{option_copied, option_or}
use Rattle.std.specs.Ordering.{is_eq, eq_by_cmp}
use Rattle.std.specs.declared.cmp.Ordering.{Ordering}
use Rattle.std.specs.declared.cmp.Ordering.TheVariants.{Less, Equal, Greater}
use Rattle.std.specs.BTreeMap.{BTreeMap, get_by}
use Rattle.std.proofs.lemmas.Cmp.{tied_itself, tied_back}
use Rattle.std.proofs.lemmas.List.Folds.{find-append}
use Rattle.units.specs.Units.{key_cmp}
use Rattle.units.specs.declared.unit.Key.{Key}
use Rattle.units.specs.Orders.{place_IsAntisymmetric, key_total}
use Rattle.template_update.specs.KeyIndexes.{first_with, IsIndexOf}

pub same_key : (x y : Key) → key_cmp x y ≡ Equal → x ≡ y
same_key x y e = ap (λ place. place.1) (place_IsAntisymmetric ([], x) ([], y) e)

pub equal : (r : Ordering) → is_eq r ≡ true → r ≡ Equal
equal Less e = cc
equal Equal e = refl
equal Greater e = cc

is_some-copied : {X : Type 0} (o : Option (Bor X)) → is_some (option_copied o) ≡ is_some o
is_some-copied None = refl
is_some-copied (Some x) = refl

or_stays : {X : Type 0} (o p : Option X) → is_some o ≡ true → option_or o p ≡ o
or_stays None p e = cc
or_stays (Some x) p e = refl

or_nothing : {X : Type 0} (o : Option X) → option_or o None ≡ o
or_nothing None = refl
or_nothing (Some x) = refl

or_else : {X : Type 0} (o p : Option X) → is_some o ≡ false → option_or o p ≡ p
or_else None p e = refl
or_else (Some x) p e = cc

module _ {X : Type 0} (key_of : X → Key) (xs : List X) (x : X) where
  found_in_both : (key : Key) → first_with key_of (xs ++ x ∷ []) key ≡ option_or (first_with key_of xs key) (cond (eq_by_cmp key_cmp key (key_of x)) (Some x) None)
  found_in_both key = find-append (λ y. eq_by_cmp key_cmp key (key_of y)) xs (x ∷ [])

  -- its key is found already
  pub found_stays : (index : BTreeMap Key (Bor X)) (own : Key) → own ≡ key_of x → IsIndexOf key_of xs index → is_some (get_by (key_cmp own) index) ≡ true → IsIndexOf key_of (xs ++ x ∷ []) index
  found_stays index own is indexed there key =
      elim (eq_by_cmp key_cmp key (key_of x)) as (λ b. eq_by_cmp key_cmp key (key_of x) ≡ b → option_copied (get_by (key_cmp key) index) ≡ first_with key_of (xs ++ x ∷ []) key) [
        | true ↦ λ e.
            let same : key ≡ own = same_key key (key_of x) (equal _ e) ∙ sym is in
            let some : is_some (first_with key_of xs key) ≡ true =
            ap is_some (sym (indexed key)) ∙ is_some-copied (get_by (key_cmp key) index) ∙ ap (λ k. is_some (get_by (key_cmp k) index)) same ∙ there in
            indexed key ∙ sym (found_in_both key ∙ or_stays (first_with key_of xs key) _ some)
        | false ↦ λ e.
            indexed key ∙ sym (found_in_both key ∙ ap (λ b. option_or (first_with key_of xs key) (cond b (Some x) None)) e ∙ or_nothing (first_with key_of xs key))
      ] refl

  -- its key is new
  pub found_more : (old new : BTreeMap Key (Bor X)) (own : Key) (at : Bor X) → own ≡ key_of x → at.now ≡ x → IsIndexOf key_of xs old → is_some (get_by (key_cmp own) old) ≡ false
      → ((q : Key) → get_by (key_cmp q) new ≡ cond (is_eq (key_cmp own q)) (Some at) (get_by (key_cmp q) old)) → IsIndexOf key_of (xs ++ x ∷ []) new
  found_more old new own at is holds indexed absent updates key =
      elim (eq_by_cmp key_cmp key (key_of x)) as (λ b. eq_by_cmp key_cmp key (key_of x) ≡ b → option_copied (get_by (key_cmp key) new) ≡ first_with key_of (xs ++ x ∷ []) key) [
        | true ↦ λ e.
            let same : key ≡ own = same_key key (key_of x) (equal _ e) ∙ sym is in
            let tie : is_eq (key_cmp own key) ≡ true = ap is_eq (ap (λ k. key_cmp own k) same ∙ tied_itself key_total own) in
            let none : is_some (first_with key_of xs key) ≡ false =
            ap is_some (sym (indexed key)) ∙ is_some-copied (get_by (key_cmp key) old) ∙ ap (λ k. is_some (get_by (key_cmp k) old)) same ∙ absent in
            ap option_copied (updates key ∙ ap (λ b. cond b (Some at) (get_by (key_cmp key) old)) tie) ∙ ap (λ y. Some y) holds
            ∙ sym (found_in_both key ∙ or_else (first_with key_of xs key) _ none ∙ ap (λ b. cond b (Some x) None) e)
        | false ↦ λ e.
            let apart : is_eq (key_cmp own key) ≡ false =
            other (key_cmp own key) (λ t. clash (sym e ∙ ap is_eq (ap (key_cmp key) (sym is) ∙ tied_back key_total own key t))) in
            ap option_copied (updates key ∙ ap (λ b. cond b (Some at) (get_by (key_cmp key) old)) apart) ∙ indexed key
            ∙ sym (found_in_both key ∙ ap (λ b. option_or (first_with key_of xs key) (cond b (Some x) None)) e ∙ or_nothing (first_with key_of xs key))
      ] refl
    where
      clash : false ≡ true → ⊥
      clash e = cc

      other : (r : Ordering) → (r ≡ Equal → ⊥) → is_eq r ≡ false
      other Less n = refl
      other Equal n = absurd (n refl)
      other Greater n = refl
