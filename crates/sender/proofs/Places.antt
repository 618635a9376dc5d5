-- Lists by their places.
use Rattle.std.proofs.Common.{◌≡◌, ℕ, zero, suc, ◌<◌, List, [], ◌∷◌, ◌++◌, take, drop, map, Bool, true, false, Some, refl, sym, ◌∙◌, ap, subst, arith, inl, inr}
use Rattle.std.specs.Prelude.{◌⊎◌, slice_get}
use Rattle.std.specs.List.{AllByRecursion}
use Rattle.std.specs.Cmp.Lexicographic.{nat_list_eq_equiv, same_text}
use Rattle.std.proofs.lemmas.Option.{same_Some}
use Rattle.std.proofs.lemmas.Map.Keys.{IsDistinct-head, IsDistinct-tail}
use Rattle.po_text.specs.Texts.{Text, text_eq}
use Rattle.request_book.specs.declared.act.Request.{Request}
use Rattle.sender.specs.Sending.{HasDistinctNumbers}

-- the last of a list, or one before it
pub at_end_or_before : {X : Type 0} (xs : List X) (x : X) (p : ℕ) (z : X) → slice_get (xs ++ x ∷ []) p ≡ Some z → (slice_get xs p ≡ Some z) ⊎ (x ≡ z)
at_end_or_before [] x zero z e = inr (same_Some x z e)
at_end_or_before [] x (suc p) z e = cc
at_end_or_before (y ∷ ys) x zero z e = inl e
at_end_or_before (y ∷ ys) x (suc p) z e = at_end_or_before ys x p z e

-- a list at one of its places
pub split_at : {X : Type 0} (xs : List X) (k : ℕ) (x : X) → slice_get xs k ≡ Some x → xs ≡ take k xs ++ x ∷ drop (suc k) xs
split_at [] k x e = cc
split_at (y ∷ ys) zero x e = ap (λ z. z ∷ ys) (same_Some y x e)
split_at (y ∷ ys) (suc k) x e = ap (λ zs. y ∷ zs) (split_at ys k x e)

pub record IsBefore {X : Type 0} (xs : List X) (k j : ℕ) (x : X) : Type 0 where
  pub before : j < k
  pub there : slice_get xs j ≡ Some x

pub in_front : {X : Type 0} (xs : List X) (k j : ℕ) (x : X) → slice_get (take k xs) j ≡ Some x → IsBefore xs k j x
in_front xs zero j x e = cc
in_front [] (suc k) j x e = cc
in_front (y ∷ ys) (suc k) zero x e = record { before = omega arith; there = e }
in_front (y ∷ ys) (suc k) (suc j) x e =
    let rest = in_front ys k j x e in
    let lt : j < k = rest.before in
    record { before = omega arith; there = rest.there }

pub front_has : {X : Type 0} (xs : List X) (k j : ℕ) (x : X) → j < k → slice_get xs j ≡ Some x → slice_get (take k xs) j ≡ Some x
front_has xs zero j x lt e = absurd (omega arith)
front_has [] (suc k) j x lt e = cc
front_has (y ∷ ys) (suc k) zero x lt e = e
front_has (y ∷ ys) (suc k) (suc j) x lt e = front_has ys k j x (omega arith) e

-- ---- requests with distinct numbers

abbrev numbers : List Request → List Text
numbers requests = map (λ request. request.number) requests

head_apart : (n : Text) (xs : List Request) (j : ℕ) (y : Request) → AllByRecursion (λ m. text_eq n m ≡ false) (numbers xs) → slice_get xs j ≡ Some y → text_eq n y.number ≡ false
head_apart n [] j y all e = cc
head_apart n (x ∷ xs) zero y all e = subst (λ (r : Request). text_eq n r.number ≡ false) (same_Some x y e) all.0
head_apart n (x ∷ xs) (suc j) y all e = head_apart n xs j y all.1 e

pub apart : (xs : List Request) (j k : ℕ) (x y : Request) → HasDistinctNumbers xs → j < k → slice_get xs j ≡ Some x → slice_get xs k ≡ Some y → text_eq x.number y.number ≡ false
apart [] j k x y d lt ej ek = cc
apart (z ∷ zs) j zero x y d lt ej ek = absurd (omega arith)
apart (z ∷ zs) zero (suc k) x y d lt ej ek =
    subst (λ (r : Request). text_eq r.number y.number ≡ false) (same_Some z x ej) (head_apart z.number zs k y (IsDistinct-head text_eq z.number (numbers zs) d) ek)
apart (z ∷ zs) (suc j) (suc k) x y d lt ej ek = apart zs j k x y (IsDistinct-tail text_eq z.number (numbers zs) d) (omega arith) ej ek

pub other_way : (a b : Text) (c : Bool) → text_eq a b ≡ c → text_eq b a ≡ c
other_way a b c e = nat_list_eq_equiv.symm b a ∙ e

pub same : (a b : Text) → text_eq a b ≡ true → a ≡ b
same a b e = same_text a b (sym e)

pub itself : (a : Text) → text_eq a a ≡ true
itself a = nat_list_eq_equiv.refl a

-- requests with one number are one
pub one_request : (xs : List Request) (j k : ℕ) (x y : Request) → HasDistinctNumbers xs → slice_get xs j ≡ Some x → slice_get xs k ≡ Some y → text_eq x.number y.number ≡ true → j ≡ k
one_request xs j k x y d ej ek t = by_order (trichotomy j k)
  where
    trichotomy : (j k : ℕ) → (j ≡ k) ⊎ ((j < k) ⊎ (k < j))
    trichotomy zero zero = inl refl
    trichotomy zero (suc k) = inr (inl (omega arith))
    trichotomy (suc j) zero = inr (inr (omega arith))
    trichotomy (suc j) (suc k) = elim (trichotomy j k) [
      | inl e ↦ inl (ap suc e)
      | inr o ↦ inr (elim o [
        | inl lt ↦ inl (omega arith)
        | inr lt ↦ inr (omega arith)
      ])
    ]

    by_order : (j ≡ k) ⊎ ((j < k) ⊎ (k < j)) → j ≡ k
    by_order (inl e) = e
    by_order (inr (inl lt)) = let wrong : true ≡ false = sym t ∙ apart xs j k x y d lt ej ek in cc
    by_order (inr (inr lt)) = let wrong : true ≡ false = sym t ∙ other_way y.number x.number false (apart xs k j y x d lt ek ej) in cc
