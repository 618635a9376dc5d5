-- A target cut at its first `?`.
use Rattle.std.proofs.Common.{◌≡◌, ◌<◌, ◌+◌, ◌==◌, ℕ, suc, Bool, true, false, List, [], ◌∷◌, length, take, drop, Option, Some, None, Bor, refl, ap, ◌∙◌, arith}
use Rattle.std.specs.Prelude.{cond, not, option_map}
use Rattle.std.specs.List.{position_or_len, before_first, after_first}
use Rattle.std.proofs.lemmas.Str.Pattern.{IsSplitOnceResult, split_once_first}
use Rattle.http_messages.specs.Heads.{cut_at}
use Rattle.http_messages.specs.Targets.{path_of, query_of}

abbrev is_mark : ℕ → Bool
is_mark b = b == 63

abbrev cut_first : List ℕ → Option (List ℕ × List ℕ)
cut_first target = Some (before_first is_mark target, after_first is_mark target)

cut_marked : (target : List ℕ) → position_or_len is_mark target < length target → cut_at 63 target ≡ cut_first target
cut_marked [] h = absurd (omega arith)
cut_marked (b ∷ target) h = by (b == 63) h (cut_marked target)
  where
    by : (t : Bool) → cond (not t) (1 + position_or_len is_mark target) 0 < suc (length target) → (position_or_len is_mark target < length target → cut_at 63 target ≡ cut_first target)
        → cond {A = Option (List ℕ × List ℕ)} t (Some ([], target)) (option_map (λ parts. (b ∷ parts.0, parts.1)) (cut_at 63 target))
        ≡ Some (take (cond (not t) (1 + position_or_len is_mark target) 0) (b ∷ target), drop (cond (not t) (1 + position_or_len is_mark target) 0 + 1) (b ∷ target))
    by true less more = refl
    by false less more =
        let next : 1 + position_or_len is_mark target ≡ suc (position_or_len is_mark target) = omega arith in
        let behind : suc (position_or_len is_mark target) + 1 ≡ suc (position_or_len is_mark target + 1) = omega arith in
        rw (more (omega arith), next, behind) refl

cut_unmarked : (target : List ℕ) → position_or_len is_mark target ≡ length target → cut_at 63 target ≡ None
cut_unmarked [] h = refl
cut_unmarked (b ∷ target) h = by (b == 63) h (cut_unmarked target)
  where
    by : (t : Bool) → cond (not t) (1 + position_or_len is_mark target) 0 ≡ suc (length target) → (position_or_len is_mark target ≡ length target → cut_at 63 target ≡ None)
        → cond {A = Option (List ℕ × List ℕ)} t (Some ([], target)) (option_map (λ parts. (b ∷ parts.0, parts.1)) (cut_at 63 target)) ≡ None
    by true end more = absurd (omega arith)
    by false end more = rw (more (omega arith)) refl

module _ (target : List ℕ) (r : Option (Bor (List ℕ) × Bor (List ℕ))) (split : IsSplitOnceResult 63 target r) where
  pub marked : (x : Bor (List ℕ) × Bor (List ℕ)) → r ≡ Some x → (x.0.now ≡ path_of target) × (Some x.1.now ≡ query_of target)
  marked x is =
      let parts = rw is at (split_once_first 63 target r split (omega arith)) in
      let cut = cut_marked target parts.0 in
      (parts.1 ∙ rw cut refl, ap Some parts.2 ∙ rw cut refl)

  pub unmarked : r ≡ None → (target ≡ path_of target) × (None ≡ query_of target)
  unmarked is =
      let end = rw is at (split_once_first 63 target r split (omega arith)) in
      let cut = cut_unmarked target end in
      (rw cut refl, rw cut refl)
