-- The sum of votes in a list: how it moves where one vote comes, goes or is replaced, and that it is small.
use Rattle.std.proofs.Common.{◌≡◌, ℕ, suc, zero, ◌<◌, ◌+◌, true, cond, List, [], ◌∷◌, ◌++◌, take, drop, length, sym, ap, ◌∙◌, arith, get_or, pos, negsuc, ◌-ℤ◌, ◌+ℤ◌, ◌≤ℤ◌}
use Rattle.std.proofs.lemmas.Int.{ints}
use Rattle.std.proofs.lemmas.List.Sums.{sum_by-append, sum_by-cons, sum_by-take-drop, sum_by-set, count_by-le-length}
use Rattle.std.specs.Prelude.{count_by, slice_set}
use Rattle.std.specs.FinMap.{is_sorted, from_sorted}
use Rattle.po_text.specs.Texts.{Text, text_cmp}
use Rattle.units.specs.declared.votes.VoteValue.{VoteValue}
use Rattle.units.specs.declared.votes.VoteValue.TheVariants.{Against, For}
use Rattle.units.specs.Ballots.{vote_eq, vote_weight, vote_sum}
use Rattle.units.proofs.Placing.{vote_sum-view}

count-put : (value : VoteValue) (votes : List (Text × VoteValue)) (i : ℕ) (vote : Text × VoteValue) →
    count_by (λ vote. vote_eq value vote.1) (take i votes ++ vote ∷ drop i votes) ≡ cond (vote_eq value vote.1) 1 0 + count_by (λ vote. vote_eq value vote.1) votes
count-put value votes i vote =
    let f : Text × VoteValue → ℕ = λ vote. cond (vote_eq value vote.1) 1 0 in
    let parts = sum_by-append f (take i votes) (vote ∷ drop i votes) in
    let behind = sum_by-cons f vote (drop i votes) in
    let whole = sum_by-take-drop f votes i in
    omega (arith, parts, behind, whole)

count-taken : (value : VoteValue) (votes : List (Text × VoteValue)) (i : ℕ) (d : Text × VoteValue) → i < length votes →
    count_by (λ vote. vote_eq value vote.1) votes ≡ cond (vote_eq value (get_or votes i d).1) 1 0 + count_by (λ vote. vote_eq value vote.1) (take i votes ++ drop (suc i) votes)
count-taken value [] i d within = absurd (omega (arith, within))
count-taken value (vote ∷ votes) zero d within = sum_by-cons (λ vote. cond (vote_eq value vote.1) 1 0) vote votes
count-taken value (vote ∷ votes) (suc i) d within =
    let f : Text × VoteValue → ℕ = λ vote. cond (vote_eq value vote.1) 1 0 in
    let whole = sum_by-cons f vote votes in
    let left = sum_by-cons f vote (take i votes ++ drop (suc i) votes) in
    let rest = count-taken value votes i d (omega (arith, within)) in
    omega (arith, whole, left, rest)

moved-put : (for_it against : ℕ) (value : VoteValue) →
    pos (1 + (cond (vote_eq For value) 1 0 + for_it)) -ℤ pos (cond (vote_eq Against value) 1 0 + against) ≡ (pos (1 + for_it) -ℤ pos against) +ℤ vote_weight value
moved-put for_it against For = omega (arith, ints)
moved-put for_it against Against = omega (arith, ints)

-- what votes in order come to when one is put among them
pub sum-put : (votes more : List (Text × VoteValue)) (i : ℕ) (vote : Text × VoteValue) → is_sorted text_cmp votes ≡ true → is_sorted text_cmp more ≡ true →
    more ≡ take i votes ++ vote ∷ drop i votes → vote_sum (from_sorted {R = text_cmp} more) ≡ vote_sum (from_sorted {R = text_cmp} votes) +ℤ vote_weight vote.1
sum-put votes more i vote sorted still same =
    vote_sum-view more still
    ∙ ap (λ l. pos (1 + count_by (λ vote. vote_eq For vote.1) l) -ℤ pos (count_by (λ vote. vote_eq Against vote.1) l)) same
    ∙ (λ k. pos (1 + count-put For votes i vote k) -ℤ pos (count-put Against votes i vote k))
    ∙ moved-put _ _ vote.1
    ∙ ap (λ z. z +ℤ vote_weight vote.1) (sym (vote_sum-view votes sorted))

-- what they come to when one is taken out
pub sum-taken : (votes fewer : List (Text × VoteValue)) (i : ℕ) (old d : Text × VoteValue) → is_sorted text_cmp votes ≡ true → is_sorted text_cmp fewer ≡ true → i < length votes →
    old ≡ get_or votes i d → fewer ≡ take i votes ++ drop (suc i) votes → vote_sum (from_sorted {R = text_cmp} votes) ≡ vote_sum (from_sorted {R = text_cmp} fewer) +ℤ vote_weight old.1
sum-taken votes fewer i old d sorted still within stands same =
    vote_sum-view votes sorted
    ∙ (λ k. pos (1 + count-taken For votes i d within k) -ℤ pos (count-taken Against votes i d within k))
    ∙ moved-put _ _ (get_or votes i d).1
    ∙ (λ k. (pos (1 + count_by (λ vote. vote_eq For vote.1) (sym same k)) -ℤ pos (count_by (λ vote. vote_eq Against vote.1) (sym same k))) +ℤ vote_weight (sym stands k).1)
    ∙ ap (λ z. z +ℤ vote_weight old.1) (sym (vote_sum-view fewer still))

count-set : (value : VoteValue) (votes : List (Text × VoteValue)) (i : ℕ) (vote d : Text × VoteValue) → i < length votes →
    cond (vote_eq value (get_or votes i d).1) 1 0 + count_by (λ vote. vote_eq value vote.1) (slice_set votes i vote) ≡ cond (vote_eq value vote.1) 1 0 + count_by (λ vote. vote_eq value vote.1) votes
count-set value votes i vote d within =
    let moved = sum_by-set (λ vote. cond (vote_eq value vote.1) 1 0) votes i vote d within in
    omega (arith, moved)

-- what they come to when one replaces another
pub sum-replaced : (votes others : List (Text × VoteValue)) (i : ℕ) (vote old d : Text × VoteValue) → is_sorted text_cmp votes ≡ true → is_sorted text_cmp others ≡ true → i < length votes →
    old ≡ get_or votes i d → others ≡ slice_set votes i vote → vote_sum (from_sorted {R = text_cmp} others) +ℤ vote_weight old.1 ≡ vote_sum (from_sorted {R = text_cmp} votes) +ℤ vote_weight vote.1
sum-replaced votes others i vote old d sorted still within stands same =
    ap (λ z. z +ℤ vote_weight old.1) (vote_sum-view others still ∙ ap (λ l. pos (1 + count_by (λ vote. vote_eq For vote.1) l) -ℤ pos (count_by (λ vote. vote_eq Against vote.1) l)) same)
    ∙ ap (λ (o : Text × VoteValue). (pos (1 + count_by (λ vote. vote_eq For vote.1) (slice_set votes i vote)) -ℤ pos (count_by (λ vote. vote_eq Against vote.1) (slice_set votes i vote))) +ℤ vote_weight o.1) stands
    ∙ sym (moved-put _ _ (get_or votes i d).1)
    ∙ (λ k. pos (1 + count-set For votes i vote d within k) -ℤ pos (count-set Against votes i vote d within k))
    ∙ moved-put _ _ vote.1
    ∙ ap (λ z. z +ℤ vote_weight vote.1) (sym (vote_sum-view votes sorted))

-- as many votes as a list can have come to a number of 64 bits, and one more vote too
pub sum-bounds : (votes : List (Text × VoteValue)) → is_sorted text_cmp votes ≡ true → (negsuc (length votes) ≤ℤ vote_sum (from_sorted {R = text_cmp} votes)) × (vote_sum (from_sorted {R = text_cmp} votes) ≤ℤ pos (1 + length votes))
sum-bounds votes sorted =
    let told = vote_sum-view votes sorted in
    let for_it = count_by-le-length (λ (vote : Text × VoteValue). vote_eq For vote.1) votes in
    let against = count_by-le-length (λ (vote : Text × VoteValue). vote_eq Against vote.1) votes in
    (omega (arith, ints, told, for_it, against), omega (arith, ints, told, for_it, against))

pub weight-bounds : (value : VoteValue) → (negsuc 0 ≤ℤ vote_weight value) × (vote_weight value ≤ℤ pos 1)
weight-bounds For = (omega (arith, ints), omega (arith, ints))
weight-bounds Against = (omega (arith, ints), omega (arith, ints))
