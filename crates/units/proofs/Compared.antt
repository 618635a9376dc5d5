-- Texts compared from a place on.
use Rattle.std.proofs.Common.{◌≡◌, ℕ, ◌+◌, ◌<◌, ◌≤◌, List, [], ◌∷◌, length, drop, get_or, Some, None, refl, sym, ap, ◌∙◌, arith, add-one}
use Rattle.std.proofs.Math.Seq.{drop-cons}
use Rattle.std.proofs.lemmas.List.{drop_all}
use Rattle.std.proofs.lemmas.Option.{slice_get_within, get_or_from_slice_get, slice_get-get_or}
use Rattle.std.proofs.lemmas.Cmp.{ranked}
use Rattle.std.specs.Prelude.{slice_get}
use Rattle.std.specs.Ordering.{nat_cmp, ordering_then}
use Rattle.std.specs.declared.cmp.Ordering.{Ordering}
use Rattle.std.specs.declared.cmp.Ordering.TheVariants.{Less, Equal, Greater}
use Rattle.std.specs.Cmp.Lexicographic.{slice_cmp}

pub from_here : (xs : List ℕ) (i x : ℕ) → slice_get xs i ≡ Some x → drop i xs ≡ x ∷ drop (i + 1) xs
from_here xs i x e =
    let within = slice_get_within xs i x e in
    let here = get_or_from_slice_get xs i x 0 e in
    drop-cons xs i 0 within ∙ (λ k. here k ∷ drop (sym (add-one i) k) xs)

decided : (r s : Ordering) → (r ≡ Equal → ⊥) → ordering_then r s ≡ r
decided Less s n = refl
decided Equal s n = absurd (n refl)
decided Greater s n = refl

tied : (x : ℕ) → nat_cmp x x ≡ Equal
tied x = grind arith

untied : (x y : ℕ) → (x ≡ y → ⊥) → nat_cmp x y ≡ Equal → ⊥
untied x y n e = n (ranked x y Equal (sym e))

-- two bytes that differ decide
pub differ : (a b : List ℕ) (i x y : ℕ) → slice_cmp nat_cmp (drop i a) (drop i b) ≡ slice_cmp nat_cmp a b → slice_get a i ≡ Some x → slice_get b i ≡ Some y → (x ≡ y → ⊥) → nat_cmp x y ≡ slice_cmp nat_cmp a b
differ a b i x y h at_a at_b n =
    sym (decided (nat_cmp x y) (slice_cmp nat_cmp (drop (i + 1) a) (drop (i + 1) b)) (untied x y n))
    ∙ (λ k. slice_cmp nat_cmp (sym (from_here a i x at_a) k) (sym (from_here b i y at_b) k)) ∙ h

-- two equal bytes don't
pub next : (a b : List ℕ) (i x : ℕ) → slice_cmp nat_cmp (drop i a) (drop i b) ≡ slice_cmp nat_cmp a b → slice_get a i ≡ Some x → slice_get b i ≡ Some x → slice_cmp nat_cmp (drop (i + 1) a) (drop (i + 1) b) ≡ slice_cmp nat_cmp a b
next a b i x h at_a at_b =
    sym (ap (λ r. ordering_then r (slice_cmp nat_cmp (drop (i + 1) a) (drop (i + 1) b))) (tied x))
    ∙ (λ k. slice_cmp nat_cmp (sym (from_here a i x at_a) k) (sym (from_here b i x at_b) k)) ∙ h

-- the second has ended, and the first hasn't
pub longer : (a b : List ℕ) (i : ℕ) → slice_cmp nat_cmp (drop i a) (drop i b) ≡ slice_cmp nat_cmp a b → i < length a → length b ≤ i → Greater ≡ slice_cmp nat_cmp a b
longer a b i h within past =
    (λ k. slice_cmp nat_cmp (sym (from_here a i (get_or a i 0) (slice_get-get_or a i 0 within)) k) (sym (drop_all i b past) k)) ∙ h

-- the first has ended, and the second hasn't
pub shorter : (a b : List ℕ) (i : ℕ) → slice_cmp nat_cmp (drop i a) (drop i b) ≡ slice_cmp nat_cmp a b → length a ≤ i → i < length b → Less ≡ slice_cmp nat_cmp a b
shorter a b i h past within =
    (λ k. slice_cmp nat_cmp (sym (drop_all i a past) k) (sym (from_here b i (get_or b i 0) (slice_get-get_or b i 0 within)) k)) ∙ h

-- both have ended
pub ended : (a b : List ℕ) (i : ℕ) → slice_cmp nat_cmp (drop i a) (drop i b) ≡ slice_cmp nat_cmp a b → length a ≤ i → length b ≤ i → Equal ≡ slice_cmp nat_cmp a b
ended a b i h past_a past_b = (λ k. slice_cmp nat_cmp (sym (drop_all i a past_a) k) (sym (drop_all i b past_b) k)) ∙ h

-- past its end a text has no byte
pub at_end : (b : List ℕ) (i : ℕ) → slice_get b i ≡ None → length b ≤ i
at_end [] i e = omega arith
at_end (x ∷ xs) i e = grind (arith, slice_get-get_or (x ∷ xs) i 0)
