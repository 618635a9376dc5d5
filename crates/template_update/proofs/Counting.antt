-- Counts over lists, and how many keys two lists without repeats have in common: counted over either, they are as many.
use Rattle.std.proofs.Common.{◌≡◌, ℕ, ◌+◌, Bool, true, false, cond, not, ◌||◌, List, [], ◌∷◌, length, map, count_by, refl, sym, ap, ◌∙◌, arith, zero-add}
use Rattle.std.specs.Cmp.{IsEquivalence}
use Rattle.std.specs.List.{AllByRecursion, IsDistinct, list_any}
use Rattle.std.proofs.lemmas.List.Sums.{sum_by-cons}

both_parts : (b : Bool) (m n k : ℕ) → m + n ≡ k → (cond (not b) 1 0 + m) + (cond b 1 0 + n) ≡ k + 1
both_parts true m n k e = omega arith
both_parts false m n k e = omega arith

one_of_two : (a b : Bool) (m n : ℕ) → (a ≡ true → b ≡ false) → cond (a || b) 1 0 + (m + n) ≡ (cond a 1 0 + m) + (cond b 1 0 + n)
one_of_two true true m n apart = let wrong : true ≡ false = apart refl in cc
one_of_two true false m n apart = omega arith
one_of_two false true m n apart = omega arith
one_of_two false false m n apart = omega arith

module _ {X : Type 0} where
  pub count-cons : (p : X → Bool) (x : X) (xs : List X) → count_by p (x ∷ xs) ≡ cond (p x) 1 0 + count_by p xs
  count-cons p x xs = sum_by-cons (λ y. cond (p y) 1 0) x xs

  -- those that fail a test and those that pass it are all
  pub count-parts : (p : X → Bool) (xs : List X) → count_by (λ x. not (p x)) xs + count_by p xs ≡ length xs
  count-parts p [] = refl
  count-parts p (x ∷ xs) =
      let all : length xs + 1 ≡ length (x ∷ xs) = omega arith in
      (λ i. count-cons (λ y. not (p y)) x xs i + count-cons p x xs i)
      ∙ both_parts (p x) (count_by (λ y. not (p y)) xs) (count_by p xs) (length xs) (count-parts p xs) ∙ all

  -- tests of which no element passes both
  pub count-either : (p q : X → Bool) (xs : List X) → AllByRecursion (λ x. p x ≡ true → q x ≡ false) xs
      → count_by (λ x. p x || q x) xs ≡ count_by p xs + count_by q xs
  count-either p q [] apart = refl
  count-either p q (x ∷ xs) apart =
      count-cons (λ y. p y || q y) x xs
      ∙ ap (λ n. cond (p x || q x) 1 0 + n) (count-either p q xs apart.1)
      ∙ one_of_two (p x) (q x) (count_by p xs) (count_by q xs) apart.0
      ∙ sym (λ i. count-cons p x xs i + count-cons q x xs i)

  pub count-none : (xs : List X) → count_by (λ _. false) xs ≡ 0
  count-none [] = refl
  count-none (x ∷ xs) = count-cons (λ _. false) x xs ∙ ap (λ n. 0 + n) (count-none xs)

module _ {X Y : Type 0} (f : X → Y) where
  pub count-map : (p : Y → Bool) (xs : List X) → count_by p (map f xs) ≡ count_by (λ x. p (f x)) xs
  count-map p [] = refl
  count-map p (x ∷ xs) = count-cons p (f x) (map f xs) ∙ ap (λ n. cond (p (f x)) 1 0 + n) (count-map p xs) ∙ sym (count-cons (λ y. p (f y)) x xs)

  pub list_any-map : (p : Y → Bool) (xs : List X) → list_any p (map f xs) ≡ list_any (λ x. p (f x)) xs
  list_any-map p [] = refl
  list_any-map p (x ∷ xs) = ap (λ b. p (f x) || b) (list_any-map p xs)

module _ {K : Type 0} (e : K → K → Bool) (equal : IsEquivalence e) where
  moved : (x y : K) → e x y ≡ true → (ys : List K) → AllByRecursion (λ z. e y z ≡ false) ys → AllByRecursion (λ z. e x z ≡ false) ys
  moved x y same [] apart = tt
  moved x y same (z ∷ zs) apart = (equal.congr x y z same ∙ apart.0, moved x y same zs apart.1)

  none_like : (x : K) (ys : List K) → AllByRecursion (λ y. e x y ≡ false) ys → count_by (λ y. e y x) ys ≡ 0
  none_like x [] apart = refl
  none_like x (y ∷ ys) apart =
      let other : e y x ≡ false = equal.symm y x ∙ apart.0 in
      count-cons (λ z. e z x) y ys ∙ (λ i. cond (other i) 1 0 + none_like x ys apart.1 i)

  -- a key stands once or not at all
  one_like : (x : K) (ys : List K) → IsDistinct e ys → count_by (λ y. e y x) ys ≡ cond (list_any (e x) ys) 1 0
  unfolding IsDistinct
  one_like x [] apart = refl
  one_like x (y ∷ ys) apart = count-cons (λ z. e z x) y ys ∙ by (one_like x ys apart.1) (e x y) refl
    where
      by : count_by (λ z. e z x) ys ≡ cond (list_any (e x) ys) 1 0 → (b : Bool) → e x y ≡ b → cond (e y x) 1 0 + count_by (λ z. e z x) ys ≡ cond (b || list_any (e x) ys) 1 0
      by rest true same =
          let here : e y x ≡ true = equal.symm y x ∙ same in
          (λ i. cond (here i) 1 0 + none_like x ys (moved x y same ys apart.0) i)
      by rest false other =
          let there : e y x ≡ false = equal.symm y x ∙ other in
          (λ i. cond (there i) 1 0 + rest i) ∙ zero-add (cond (list_any (e x) ys) 1 0)

  not_among : (x y : K) → e y x ≡ true → (xs : List K) → AllByRecursion (λ z. e x z ≡ false) xs → list_any (e y) xs ≡ false
  not_among x y same [] apart = refl
  not_among x y same (z ∷ zs) apart = (λ i. (equal.congr y x z same ∙ apart.0) i || not_among x y same zs apart.1 i)

  never_both : (x : K) (xs : List K) → AllByRecursion (λ z. e x z ≡ false) xs → (ys : List K)
      → AllByRecursion (λ y. e y x ≡ true → list_any (e y) xs ≡ false) ys
  never_both x xs apart [] = tt
  never_both x xs apart (y ∷ ys) = (λ same. not_among x y same xs apart, never_both x xs apart ys)

  pub count-common : (xs ys : List K) → IsDistinct e xs → IsDistinct e ys
      → count_by (λ x. list_any (e x) ys) xs ≡ count_by (λ y. list_any (e y) xs) ys
  unfolding IsDistinct
  count-common [] ys first second = sym (count-none ys)
  count-common (x ∷ xs) ys first second =
      count-cons (λ z. list_any (e z) ys) x xs
      ∙ (λ i. sym (one_like x ys second) i + count-common xs ys first.1 second i)
      ∙ sym (count-either (λ y. e y x) (λ y. list_any (e y) xs) ys (never_both x xs first.0 ys))
