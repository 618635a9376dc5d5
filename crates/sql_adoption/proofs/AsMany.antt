-- Where elements of a list are apart and all in another, which is no longer, they are all of it.
use Rattle.std.proofs.Common.{◌≡◌, ◌⊎◌, inl, inr, ◌≤◌, suc, List, [], ◌∷◌, length, Bool, true, false, cond, refl, sym, ap, ◌∙◌, arith}
use Rattle.std.specs.List.{AllByRecursion}
use Rattle.sqlite_rules.specs.Lists.{Has}
use Rattle.sqlite_rules.proofs.ListLemmas.{all_has}

module _ {X : Type 0} (same : X → X → Bool) (tied : (x y : X) → same x y ≡ true → x ≡ y) (itself : (x : X) → same x x ≡ true) where
  -- each differs from those behind it
  abbrev pub AreAllApart : List X → Type 0
  AreAllApart [] = Unit {0}
  AreAllApart (x ∷ xs) = AllByRecursion (λ y. same x y ≡ false) xs × AreAllApart xs

  abbrev without_one : X → List X → List X
  without_one x [] = []
  without_one x (y ∷ ys) = cond (same x y) ys (y ∷ without_one x ys)

  length_without : (x : X) (ys : List X) → Has ys x → length ys ≡ suc (length (without_one x ys))
  length_without x [] there = absurd there
  length_without x (y ∷ ys) there = by (same x y) refl (length_without x ys)
    where
      by : (b : Bool) → same x y ≡ b → (Has ys x → length ys ≡ suc (length (without_one x ys))) → length (y ∷ ys) ≡ suc (length (cond b ys (y ∷ without_one x ys)))
      by true e behind = refl
      by false e behind = elim there [
        | inl here ↦ absurd (let no : true ≡ false = sym (itself x) ∙ ap (same x) here ∙ e in cc)
        | inr later ↦ ap suc (behind later)
      ]

  others_kept : (x z : X) (ys : List X) → Has ys z → same x z ≡ false → Has (without_one x ys) z
  others_kept x z [] there differ = there
  others_kept x z (y ∷ ys) there differ = by (same x y) refl (λ later. others_kept x z ys later differ)
    where
      by : (b : Bool) → same x y ≡ b → (Has ys z → Has (without_one x ys) z) → Has (cond b ys (y ∷ without_one x ys)) z
      by true e behind = elim there [
        | inl here ↦ absurd (let no : true ≡ false = sym e ∙ ap (same x) (sym here) ∙ differ in cc)
        | inr later ↦ later
      ]
      by false e behind = elim there [ inl here ↦ inl here | inr later ↦ inr (behind later) ]

  first_or_other : (x y : X) (ys : List X) → Has ys y → (y ≡ x) ⊎ Has (without_one x ys) y
  first_or_other x y ys there = by (same x y) refl
    where
      by : (b : Bool) → same x y ≡ b → (y ≡ x) ⊎ Has (without_one x ys) y
      by true e = inl (sym (tied x y e))
      by false e = inr (others_kept x y ys there e)

  pub as_many_is_all : (xs ys : List X) → AreAllApart xs → ((x : X) → Has xs x → Has ys x) → length ys ≤ length xs → (y : X) → Has ys y → Has xs y
  as_many_is_all [] [] apart within long y there = there
  as_many_is_all [] (z ∷ ys) apart within long y there = absurd (omega arith)
  as_many_is_all (x ∷ xs) ys apart within long y there =
      let is_long : length ys ≡ suc (length (without_one x ys)) = length_without x ys (within x (inl refl)) in
      elim (first_or_other x y ys there) [
        | inl same_one ↦ inl same_one
        | inr other ↦ inr (as_many_is_all xs (without_one x ys) apart.1
            (λ z listed. others_kept x z ys (within z (inr listed)) (all_has (λ z. same x z ≡ false) xs z apart.0 listed)) (omega arith) y other)
      ]

  pub no_more_than : (xs ys : List X) → AreAllApart xs → ((x : X) → Has xs x → Has ys x) → length xs ≤ length ys
  no_more_than [] ys apart within = omega arith
  no_more_than (x ∷ xs) ys apart within =
      let is_long : length ys ≡ suc (length (without_one x ys)) = length_without x ys (within x (inl refl)) in
      let rest = no_more_than xs (without_one x ys) apart.1 (λ z listed. others_kept x z ys (within z (inr listed)) (all_has (λ z. same x z ≡ false) xs z apart.0 listed)) in
      omega arith
