-- Votes: when two are equal, what they come to, and where a voter's vote stands among those in the order of their voters. (This project's own.)
use Rattle.std.specs.Prelude.{Bool, true, false, not, ◌≡◌, ◌<◌, ◌≤◌, ℕ, ◌+◌, ℤ, pos, negsuc, ◌-ℤ◌, List, take, All, IfSome, slice_get, length, count_by}
use Rattle.std.specs.FinMap as maps
use Rattle.std.specs.declared.cmp.Ordering.TheVariants.{Less, Equal, Greater}
use Rattle.po_text.specs.Texts.{Text, text_cmp}
use Rattle.units.specs.declared.votes.VoteValue.{VoteValue}
use Rattle.units.specs.declared.votes.VoteValue.TheVariants.{Against, For}

abbrev pub is_for : VoteValue → Bool
is_for For = true
is_for Against = false

abbrev pub vote_eq : VoteValue → VoteValue → Bool
vote_eq For b = is_for b
vote_eq Against b = not (is_for b)

-- a vote for counts 1, one against -1
abbrev pub vote_weight : VoteValue → ℤ
vote_weight For = pos 1
vote_weight Against = negsuc 0

-- 1 plus the votes, of which one for counts 1 and one against -1
abbrev pub vote_sum : maps.FinMap text_cmp VoteValue → ℤ
vote_sum votes = pos (1 + count_by is_for (maps.values votes)) -ℤ pos (count_by (λ b. not (is_for b)) (maps.values votes))

-- the first i are those of voters before this one
abbrev pub StandsAfter : {X : Type 0} → Text → List (Text × X) → ℕ → Type 0
StandsAfter voter votes i = All (λ vote. text_cmp voter vote.0 ≡ Greater) (take i votes)

-- the voter's vote stands at i
pub record IsPlaceOf {X : Type 0} (voter : Text) (votes : List (Text × X)) (i : ℕ) : Type 0 where
  pub within : i < length votes
  pub after : StandsAfter voter votes i
  pub same : IfSome (slice_get votes i) (λ vote. text_cmp voter vote.0 ≡ Equal)

-- the voter has no vote, and one belongs at i
pub record IsNewPlaceOf {X : Type 0} (voter : Text) (votes : List (Text × X)) (i : ℕ) : Type 0 where
  pub within : i ≤ length votes
  pub after : StandsAfter voter votes i
  pub before : IfSome (slice_get votes i) (λ vote. text_cmp voter vote.0 ≡ Less)
