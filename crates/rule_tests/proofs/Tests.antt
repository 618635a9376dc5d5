-- What several tests tell together.
use Rattle.std.proofs.Common.{◌≡◌, ℕ, ◌+◌, ◌<◌, ◌≤◌, List, [], ◌∷◌, Bool, true, false, ◌&&◌, refl, sym, ◌∙◌, subst, length, take, get_or}
use Rattle.std.specs.Bool.{Decides}
use Rattle.std.specs.List.{list_all, AllByRecursion}
use Rattle.std.specs.Prelude.{All}
use Rattle.std.proofs.lemmas.Bool.Decides.{Decides-at, Decides-like, Decides-and, Decides-by_and}
use Rattle.std.proofs.lemmas.Bool.{false≢true}
use Rattle.std.proofs.lemmas.List.{take_all}
use Rattle.std.proofs.lemmas.List.Elements.{All-from_recursion, recursion_from_All, All-more, All-same, All-get_or}

-- a test that holds
pub holds : Decides true (Unit {0})
holds = (λ e. tt, λ u. refl)

pub three_tell : {P Q R S : Type 0} (r a b c : Bool) → r ≡ (a && (b && c)) → (P × (Q × R) → S) → (S → P × (Q × R)) → Decides a P → Decides b Q → Decides c R → Decides r S
three_tell {P} {Q} {R} {S} r a b c e to from p q s =
    Decides-at r (a && (b && c)) e (Decides-like (a && (b && c)) to from (Decides-and a (b && c) p (Decides-and b c q s)))

pub all_tell : {X : Type 0} (p : X → Bool) (P : X → Type 0) → ((x : X) → Decides (p x) (P x)) → (xs : List X) → Decides (list_all p xs) (All P xs)
all_tell p P each xs = Decides-by_and p P (list_all p) each refl (λ x ys. refl) xs

pub all_tell_by_recursion : {X : Type 0} (p : X → Bool) (P : X → Type 0) → ((x : X) → Decides (p x) (P x)) → (xs : List X) → Decides (list_all p xs) (AllByRecursion P xs)
all_tell_by_recursion p P each xs = Decides-like (list_all p xs) (recursion_from_All P xs) (All-from_recursion P xs) (all_tell p P each xs)

-- ---- a loop that stops at the first of a list that fails

pub all_more : {X : Type 0} (P : X → Type 0) (xs : List X) (i : ℕ) (x : X) → i < length xs → x ≡ get_or xs i x → All P (take i xs) → P x → All P (take (i + 1) xs)
all_more P xs i x within is before here = All-more P xs i x within before (subst P is here)

pub all_passed : {X : Type 0} (P : X → Type 0) (xs : List X) (i : ℕ) → length xs ≤ i → All P (take i xs) → Decides true (All P xs)
all_passed P xs i past all = (λ e. All-same P xs (take i xs) (sym (take_all i xs past)) all, λ h. refl)

pub one_failed : {X : Type 0} (P : X → Type 0) (xs : List X) (i : ℕ) (x : X) (b : Bool) → i < length xs → x ≡ get_or xs i x → Decides b (P x) → b ≡ false → Decides false (All P xs)
one_failed P xs i x b within is tells failed =
    (λ e. absurd (false≢true e), λ all. absurd (false≢true (sym failed ∙ tells.1 (subst P (sym is) (All-get_or P xs i x within all)))))

-- ---- a walk that stops at the first of what is left that fails

pub record IsLeft {X : Type 0} (P : X → Type 0) (rest all : List X) : Type 0 where
  pub back : AllByRecursion P rest → AllByRecursion P all
  pub on : AllByRecursion P all → AllByRecursion P rest

pub left_begun : {X : Type 0} (P : X → Type 0) (rest all : List X) → rest ≡ all → IsLeft P rest all
left_begun P rest all is = record { back = λ h. subst (AllByRecursion P) is h; on = λ h. subst (AllByRecursion P) (sym is) h }

pub left_next : {X : Type 0} (P : X → Type 0) (rest next all : List X) (x : X) → rest ≡ x ∷ next → P x → IsLeft P rest all → IsLeft P next all
left_next P rest next all x is here left = record {
  back = λ h. left.back (subst (AllByRecursion P) (sym is) (here, h));
  on = λ h. (subst (AllByRecursion P) is (left.on h)).1;
}

pub left_failed : {X : Type 0} (P : X → Type 0) (rest next all : List X) (x : X) (b : Bool) → rest ≡ x ∷ next → Decides b (P x) → b ≡ false → IsLeft P rest all → Decides false (AllByRecursion P all)
left_failed P rest next all x b is tells failed left =
    (λ e. absurd (false≢true e), λ h. absurd (false≢true (sym failed ∙ tells.1 (subst (AllByRecursion P) is (left.on h)).0)))

pub left_passed : {X : Type 0} (P : X → Type 0) (rest all : List X) → rest ≡ [] → IsLeft P rest all → Decides true (AllByRecursion P all)
left_passed P rest all is left = (λ e. left.back (subst (AllByRecursion P) (sym is) tt), λ h. refl)
