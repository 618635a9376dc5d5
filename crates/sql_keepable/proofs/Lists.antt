-- What holds of each element of a list that is walked.
use Rattle.std.proofs.Common.{◌≡◌, inl, inr, ℕ, suc, ◌+◌, ◌<◌, ◌≤◌, List, [], ◌∷◌, length, take, get_or, sym, subst, arith}
use Rattle.std.specs.Prelude.{All}
use Rattle.std.proofs.lemmas.List.{take_all}
use Rattle.std.proofs.lemmas.List.Elements.{All-more, All-same}
use Rattle.sqlite_rules.specs.Lists.{Has}

module _ {X : Type 0} (P : X → Type 0) where
  pub one_more : (xs : List X) (i : ℕ) (x : X) → i < length xs → x ≡ get_or xs i x → All P (take i xs) → P x → All P (take (i + 1) xs)
  one_more xs i x within is before here = All-more P xs i x within before (subst P is here)

  pub walked : (xs : List X) (i : ℕ) → length xs ≤ i → All P (take i xs) → All P xs
  walked xs i past all = All-same P xs (take i xs) (sym (take_all i xs past)) all

  pub each_of : (xs : List X) → All P xs → (x : X) → Has xs x → P x
  each_of [] all x there = absurd there
  each_of (y ∷ xs) all x (inl is) = subst P (sym is) (all 0 y (omega arith))
  each_of (y ∷ xs) all x (inr later) = each_of xs (λ k d less. all (suc k) d (omega arith)) x later
