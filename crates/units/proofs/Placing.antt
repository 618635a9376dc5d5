-- Votes in the order of their voters: what the list answers for the map that it is seen as.
use Rattle.std.proofs.Common.{◌≡◌, ℕ, suc, zero, ◌<◌, ◌≤◌, ◌+◌, ◌-◌, Bool, true, false, cond, not, ◌&&◌, List, [], ◌∷◌, ◌++◌, map, take, drop, length, refl, sym, ap, subst, ◌∙◌, Option, Some, None, Result, Ok, Err, MatchResult, ◌⊎◌, inl, inr, arith, get_or, pos, ◌-ℤ◌}
use Rattle.std.proofs.Math.Dec.{T}
use Rattle.std.proofs.lemmas.Bool.{cases_lt}
use Rattle.std.proofs.lemmas.List.{get_or-take, length-take-le}
use Rattle.std.proofs.lemmas.List.Elements.{All-head, All-tail}
use Rattle.std.proofs.lemmas.List.Sums.{sum_by-cons}
use Rattle.std.proofs.lemmas.Option.{get_or_from_slice_get}
use Rattle.std.specs.Prelude.{count_by, slice_get, slice_set, IfSome}
use Rattle.std.specs.List.Sorted.{IsSearchInRange, IsBinarySearchResult, IsNonDecreasingBy}
use Rattle.std.specs.Ordering.{is_eq, is_lt, eq_by_cmp, ordering_index, ordering_reverse}
use Rattle.std.specs.Cmp.{eq_by_cmp_equiv}
use Rattle.std.specs.declared.cmp.Ordering.{Ordering}
use Rattle.std.specs.declared.cmp.Ordering.TheVariants.{Less, Equal, Greater}
use Rattle.std.specs.FinMap.{FinMap, entries, entries_sorted, empty, find, put, is_sorted, from_sorted, insert, remove, get, len, values, entries-from_sorted, entries-insert, get-entries, get-from_sorted, get-remove, len-entries, len-empty, same_entries_map, same_map}
use Rattle.std.specs.FinMap.Entries.{below_all, where_key, is_sorted-where_key, find-where_key}
use Rattle.po_text.specs.Texts.{Text, text_cmp}
use Rattle.units.specs.declared.votes.VoteValue.{VoteValue}
use Rattle.units.specs.declared.votes.VoteValue.TheVariants.{Against, For}
use Rattle.units.specs.Ballots.{StandsAfter, IsPlaceOf, IsNewPlaceOf, is_for, vote_eq}
use Rattle.units.specs.Ballots.{vote_sum}
use Rattle.units.specs.Orders.{text_total, text_IsAntisymmetric}

is_true : (b : Bool) → b ≡ true → T b
is_true true e = tt
is_true false e = cc

of_true : (b : Bool) → T b → b ≡ true
of_true true t = refl
of_true false t = absurd t

first : (a b : Bool) → a && b ≡ true → a ≡ true
first true b e = refl
first false b e = e

second : (a b : Bool) → a && b ≡ true → b ≡ true
second true b e = e
second false b e = cc

less : (r : Ordering) → is_lt r ≡ true → r ≡ Less
less Less e = refl
less Equal e = cc
less Greater e = cc

no_items : {A : Type 0} (xs : List A) → length xs ≡ 0 → xs ≡ []
no_items [] e = refl
no_items (x ∷ xs) e = absurd (omega arith)

turned : (a b : Text) → text_cmp a b ≡ Less → text_cmp b a ≡ Greater
turned a b e = text_total.antisymm b a ∙ ap ordering_reverse e

turned_back : (a b : Text) → text_cmp a b ≡ Greater → text_cmp b a ≡ Less
turned_back a b e = text_total.antisymm b a ∙ ap ordering_reverse e

module _ {X : Type 0} where
  -- ---- the map that a list in order is seen as

  pub entries-view : (votes : List (Text × X)) → is_sorted text_cmp votes ≡ true → entries (from_sorted {R = text_cmp} votes) ≡ votes
  entries-view votes sorted = entries-from_sorted text_cmp votes (is_true _ sorted)

  pub len-view : (votes : List (Text × X)) → is_sorted text_cmp votes ≡ true → len (from_sorted {R = text_cmp} votes) ≡ length votes
  len-view votes sorted = len-entries (from_sorted {R = text_cmp} votes) ∙ ap length (entries-view votes sorted)

  pub view-nil : (votes : List (Text × X)) → votes ≡ [] → from_sorted {R = text_cmp} votes ≡ empty
  view-nil votes none =
      let entries-empty : entries (empty {X = X} {R = text_cmp}) ≡ [] = no_items _ (sym (len-entries (empty {X = X} {R = text_cmp})) ∙ len-empty text_cmp X) in
      same_entries_map _ _ (entries-view votes (ap (is_sorted text_cmp) none) ∙ none ∙ sym entries-empty)

  -- a list that has a map's entries is in order, and is seen as that map
  pub sorted_by_entries : (m : FinMap text_cmp X) (votes : List (Text × X)) → entries m ≡ votes → is_sorted text_cmp votes ≡ true
  sorted_by_entries m votes same = ap (is_sorted text_cmp) (sym same) ∙ of_true _ (entries_sorted m)

  pub view_by_entries : (m : FinMap text_cmp X) (votes : List (Text × X)) → entries m ≡ votes → from_sorted votes ≡ m
  view_by_entries m votes same = same_entries_map _ _ (entries-view votes (sorted_by_entries m votes same) ∙ sym same)

  -- ---- where a voter stands among votes in order

  below-each : (voter : Text) (votes : List (Text × X)) (j : ℕ) (d : Text × X) → below_all text_cmp voter votes ≡ true → j < length votes → text_cmp voter (get_or votes j d).0 ≡ Less
  below-each voter [] j d under within = absurd (omega (arith, within))
  below-each voter (vote ∷ votes) zero d under within = less _ (first _ _ under)
  below-each voter (vote ∷ votes) (suc j) d under within = below-each voter votes j d (second _ _ under) (omega (arith, within))

  voters-rise : (votes : List (Text × X)) (i j : ℕ) (d : Text × X) → is_sorted text_cmp votes ≡ true → i < j → j < length votes → text_cmp (get_or votes i d).0 (get_or votes j d).0 ≡ Less
  voters-rise [] i j d sorted before within = absurd (omega (arith, within))
  voters-rise (vote ∷ votes) i zero d sorted before within = absurd (omega (arith, before))
  voters-rise (vote ∷ votes) zero (suc j) d sorted before within = below-each vote.0 votes j d (first _ _ sorted) (omega (arith, within))
  voters-rise (vote ∷ votes) (suc i) (suc j) d sorted before within = voters-rise votes i j d (second _ _ sorted) (omega (arith, before)) (omega (arith, within))

  -- if the voter is after the one at i, or is that one, the voter is after those before i
  before-place : (voter : Text) (votes : List (Text × X)) (i : ℕ) (d : Text × X) → is_sorted text_cmp votes ≡ true → i < length votes → (text_cmp (get_or votes i d).0 voter ≡ Less) ⊎ (text_cmp (get_or votes i d).0 voter ≡ Equal) →
      (k : ℕ) → k < i → text_cmp voter (get_or votes k d).0 ≡ Greater
  before-place voter votes i d sorted within at k before =
      let a = (get_or votes k d).0 in
      let b = (get_or votes i d).0 in
      let rise = voters-rise votes k i d sorted before within in
      turned a voter (elim at [
        | inl under ↦ text_total.trans a b voter rise under
        | inr tie ↦ ap (text_cmp a) (sym (text_IsAntisymmetric b voter tie)) ∙ rise
      ])

  -- comparisons with a voter rise along votes in order, as a binary search asks
  places-rise : (voter : Text) (votes : List (Text × X)) → is_sorted text_cmp votes ≡ true → IsNonDecreasingBy (λ vote. ordering_index (text_cmp vote.0 voter)) votes
  places-rise voter votes sorted i j d before within = elim (cases_lt i j) [
    | inl under ↦ rises (text_cmp (get_or votes j d).0 voter) refl under
    | inr over ↦ (let same : i ≡ j = omega (arith, over, before) in subst (λ k. ordering_index (text_cmp (get_or votes i d).0 voter) ≤ ordering_index (text_cmp (get_or votes k d).0 voter)) same (omega arith))
  ]
    where
      rises : (r : Ordering) → text_cmp (get_or votes j d).0 voter ≡ r → i < j → ordering_index (text_cmp (get_or votes i d).0 voter) ≤ ordering_index r
      rises Less e under = rw (turned_back voter _ (before-place voter votes j d sorted within (inl e) i under)) (omega arith)
      rises Equal e under = rw (turned_back voter _ (before-place voter votes j d sorted within (inr e) i under)) (omega arith)
      rises Greater e under = at_most (text_cmp (get_or votes i d).0 voter)
        where
          at_most : (r : Ordering) → ordering_index r ≤ 2
          at_most Less = omega arith
          at_most Equal = omega arith
          at_most Greater = omega arith

  stands-before : (voter : Text) (votes : List (Text × X)) (i : ℕ) → i ≤ length votes → ((k : ℕ) (d : Text × X) → k < i → text_cmp voter (get_or votes k d).0 ≡ Greater) → StandsAfter voter votes i
  stands-before voter votes i within over k d before =
      let under : k < i = omega (arith, before, length-take-le i votes within) in
      ap (λ vote. text_cmp voter vote.0) (get_or-take i votes k d under) ∙ over k d under

  at-place : (P : Text × X → Type 0) (votes : List (Text × X)) (i : ℕ) → i ≤ length votes → ((d : Text × X) → i < length votes → P (get_or votes i d)) → IfSome (slice_get votes i) P
  at-place P [] zero within at = tt
  at-place P [] (suc i) within at = absurd (omega (arith, within))
  at-place P (vote ∷ votes) zero within at = at vote (omega arith)
  at-place P (vote ∷ votes) (suc i) within at = at-place P votes i (omega (arith, within)) (λ d under. at d (omega (arith, under)))

  -- what a binary search finds
  pub searched : (voter : Text) (votes : List (Text × X)) (r : Result ℕ ℕ) → is_sorted text_cmp votes ≡ true → IsSearchInRange r (length votes) → IsBinarySearchResult (λ vote. text_cmp vote.0 voter) votes r →
      MatchResult r (IsPlaceOf voter votes) (IsNewPlaceOf voter votes)
  searched voter votes (Ok i) sorted within same = record {
    within = within;
    after = stands-before voter votes i (omega (arith, within)) (λ k d under. before-place voter votes i d sorted within (inr (same d)) k under);
    same = at-place (λ vote. text_cmp voter vote.0 ≡ Equal) votes i (omega (arith, within)) (λ d under. text_total.antisymm voter _ ∙ ap ordering_reverse (same d));
  }
  searched voter votes (Err i) sorted within parted =
      let parts = parted (places-rise voter votes sorted) in
      record {
        within = within;
        after = stands-before voter votes i within (λ k d under. turned _ voter (parts.0 k d (omega arith) under));
        before = at-place (λ vote. text_cmp voter vote.0 ≡ Less) votes i within (λ d under. turned_back _ voter (parts.1 i d (omega arith) under));
      }

  -- a voter after the last one is after all
  pub after-last : (voter : Text) (votes : List (Text × X)) (last : Text × X) → is_sorted text_cmp votes ≡ true → Some last ≡ slice_get votes (length votes - 1) → is_lt (text_cmp last.0 voter) ≡ true → StandsAfter voter votes (length votes)
  after-last voter votes last sorted at under = stands-before voter votes (length votes) (omega arith) (λ k d within.
      let same : get_or votes (length votes - 1) d ≡ last = get_or_from_slice_get votes (length votes - 1) last d (sym at) in
      let first_under : text_cmp (get_or votes (length votes - 1) d).0 voter ≡ Less = ap (λ vote. text_cmp vote.0 voter) same ∙ less _ under in
      let last_within : length votes - 1 < length votes = omega (arith, within) in
      elim (cases_lt k (length votes - 1)) [
        | inl before ↦ before-place voter votes (length votes - 1) d sorted last_within (inl first_under) k before
        | inr over ↦ (let here : length votes - 1 ≡ k = omega (arith, over, within) in subst (λ i. text_cmp voter (get_or votes i d).0 ≡ Greater) here (turned _ voter first_under))
      ])

  -- ---- what stands before a voter's place answers nothing for the voter, and stays

  pub find-after : (voter : Text) (votes : List (Text × X)) (i : ℕ) → StandsAfter voter votes i → find text_cmp voter votes ≡ find text_cmp voter (drop i votes)
  find-after voter [] zero after = refl
  find-after voter [] (suc i) after = refl
  find-after voter (vote ∷ votes) zero after = refl
  find-after voter (vote ∷ votes) (suc i) after =
      let head = All-head (λ vote. text_cmp voter vote.0 ≡ Greater) vote (take i votes) after in
      let tail = All-tail (λ vote. text_cmp voter vote.0 ≡ Greater) vote (take i votes) after in
      ap (λ r. cond (is_eq r) (Some vote.1) (find text_cmp voter votes)) head ∙ find-after voter votes i tail

  -- the vote at its place is the one that is found
  pub find-place : (voter : Text) (votes : List (Text × X)) (i : ℕ) (d : Text × X) → IsPlaceOf voter votes i → find text_cmp voter votes ≡ Some (get_or votes i d).1
  find-place voter [] i d place = absurd (omega (arith, place.within))
  find-place voter (vote ∷ votes) zero d place = ap (λ r. cond (is_eq r) (Some vote.1) (find text_cmp voter votes)) place.same
  find-place voter (vote ∷ votes) (suc i) d place =
      let head = All-head (λ vote. text_cmp voter vote.0 ≡ Greater) vote (take i votes) place.after in
      let tail = All-tail (λ vote. text_cmp voter vote.0 ≡ Greater) vote (take i votes) place.after in
      ap (λ r. cond (is_eq r) (Some vote.1) (find text_cmp voter votes)) head
      ∙ find-place voter votes i d (record { within = omega (arith, place.within); after = tail; same = place.same })

  -- among voters above one above this one, this one's is not found
  find-below : (voter above : Text) (votes : List (Text × X)) → text_cmp voter above ≡ Less → below_all text_cmp above votes ≡ true → find text_cmp voter votes ≡ None
  find-below voter above [] under over = refl
  find-below voter above (vote ∷ votes) under over =
      ap (λ r. cond (is_eq r) (Some vote.1) (find text_cmp voter votes)) (text_total.trans voter above vote.0 under (less _ (first _ _ over)))
      ∙ find-below voter above votes under (second _ _ over)

  -- where the voter's vote would stand none is found
  pub find-new_place : (voter : Text) (votes : List (Text × X)) (i : ℕ) → is_sorted text_cmp votes ≡ true → IsNewPlaceOf voter votes i → find text_cmp voter votes ≡ None
  find-new_place voter [] i sorted place = refl
  find-new_place voter (vote ∷ votes) zero sorted place =
      ap (λ r. cond (is_eq r) (Some vote.1) (find text_cmp voter votes)) place.before
      ∙ find-below voter vote.0 votes place.before (first _ _ sorted)
  find-new_place voter (vote ∷ votes) (suc i) sorted place =
      let head = All-head (λ vote. text_cmp voter vote.0 ≡ Greater) vote (take i votes) place.after in
      let tail = All-tail (λ vote. text_cmp voter vote.0 ≡ Greater) vote (take i votes) place.after in
      ap (λ r. cond (is_eq r) (Some vote.1) (find text_cmp voter votes)) head
      ∙ find-new_place voter votes i (second _ _ sorted) (record { within = omega (arith, place.within); after = tail; before = place.before })

  pub put-place : (voter : Text) (value : X) (votes : List (Text × X)) (i : ℕ) → IsPlaceOf voter votes i → put text_cmp voter value votes ≡ slice_set votes i (voter, value)
  put-place voter value [] i place = absurd (omega (arith, place.within))
  put-place voter value (vote ∷ votes) zero place =
      let same : vote.0 ≡ voter = sym (text_IsAntisymmetric voter vote.0 place.same) in
      rw place.same (λ i. (same i, value) ∷ votes)
  put-place voter value (vote ∷ votes) (suc i) place =
      let head = All-head (λ vote. text_cmp voter vote.0 ≡ Greater) vote (take i votes) place.after in
      let tail = All-tail (λ vote. text_cmp voter vote.0 ≡ Greater) vote (take i votes) place.after in
      rw head (ap (λ l. vote ∷ l) (put-place voter value votes i (record { within = omega (arith, place.within); after = tail; same = place.same })))

  pub put-new_place : (voter : Text) (value : X) (votes : List (Text × X)) (i : ℕ) → IsNewPlaceOf voter votes i → put text_cmp voter value votes ≡ take i votes ++ (voter, value) ∷ drop i votes
  put-new_place voter value [] zero place = refl
  put-new_place voter value [] (suc i) place = absurd (omega (arith, place.within))
  put-new_place voter value (vote ∷ votes) zero place = rw place.before refl
  put-new_place voter value (vote ∷ votes) (suc i) place =
      let head = All-head (λ vote. text_cmp voter vote.0 ≡ Greater) vote (take i votes) place.after in
      let tail = All-tail (λ vote. text_cmp voter vote.0 ≡ Greater) vote (take i votes) place.after in
      rw head (ap (λ l. vote ∷ l) (put-new_place voter value votes i (record { within = omega (arith, place.within); after = tail; before = place.before })))

  -- past the end there is no vote
  pub past_end : (P : Text × X → Type 0) (votes : List (Text × X)) → IfSome (slice_get votes (length votes)) P
  past_end P [] = tt
  past_end P (vote ∷ votes) = past_end P votes

  -- ---- the voter's vote goes

  pub entries-remove : (m : FinMap text_cmp X) (voter : Text) → entries (remove m voter) ≡ where_key text_cmp (λ x. not (eq_by_cmp text_cmp voter x)) (entries m)
  entries-remove m voter =
      let kept = where_key text_cmp (λ x. not (eq_by_cmp text_cmp voter x)) (entries m) in
      let sorted = is_sorted-where_key text_cmp (λ x. not (eq_by_cmp text_cmp voter x)) (entries m) (entries_sorted m) in
      let turned : (b : Bool) (x : Option X) → cond (not b) x None ≡ cond b None x = λ b x. elim b as (λ b. cond (not b) x None ≡ cond b None x) [ true ↦ refl | false ↦ refl ] in
      let same : from_sorted kept ≡ remove m voter = same_map text_total text_IsAntisymmetric (from_sorted kept) (remove m voter) (λ q.
      get-from_sorted text_cmp kept q sorted
      ∙ find-where_key text_cmp (λ x. not (eq_by_cmp text_cmp voter x)) q (λ x tie. ap (λ y. not (eq_by_cmp text_cmp voter y)) (sym (text_IsAntisymmetric q x tie))) (entries m)
      ∙ turned (eq_by_cmp text_cmp voter q) _
      ∙ ap (λ b. cond b None (find text_cmp q (entries m))) ((eq_by_cmp_equiv text_total).symm voter q)
      ∙ ap (λ o. cond (eq_by_cmp text_cmp q voter) None o) (sym (get-entries m q))
      ∙ sym (get-remove text_total m voter q)) in
      ap entries (sym same) ∙ entries-from_sorted text_cmp kept sorted

  others-above : (voter : Text) (votes : List (Text × X)) → below_all text_cmp voter votes ≡ true → where_key text_cmp (λ x. not (eq_by_cmp text_cmp voter x)) votes ≡ votes
  others-above voter [] over = refl
  others-above voter (vote ∷ votes) over =
      ap (λ r. cond (not (is_eq r)) (vote ∷ where_key text_cmp (λ x. not (eq_by_cmp text_cmp voter x)) votes) (where_key text_cmp (λ x. not (eq_by_cmp text_cmp voter x)) votes)) (less _ (first _ _ over))
      ∙ ap (λ l. vote ∷ l) (others-above voter votes (second _ _ over))

  -- the votes of others are all but the one at the voter's place
  pub others-place : (voter : Text) (votes : List (Text × X)) (i : ℕ) → is_sorted text_cmp votes ≡ true → IsPlaceOf voter votes i →
      where_key text_cmp (λ x. not (eq_by_cmp text_cmp voter x)) votes ≡ take i votes ++ drop (suc i) votes
  others-place voter [] i sorted place = absurd (omega (arith, place.within))
  others-place voter (vote ∷ votes) zero sorted place =
      let others = where_key text_cmp (λ x. not (eq_by_cmp text_cmp voter x)) votes in
      let over = ap (λ x. below_all text_cmp x votes) (text_IsAntisymmetric voter vote.0 place.same) ∙ first _ _ sorted in
      ap (λ r. cond (not (is_eq r)) (vote ∷ others) others) place.same ∙ others-above voter votes over
  others-place voter (vote ∷ votes) (suc i) sorted place =
      let others = where_key text_cmp (λ x. not (eq_by_cmp text_cmp voter x)) votes in
      let head = All-head (λ vote. text_cmp voter vote.0 ≡ Greater) vote (take i votes) place.after in
      let tail = All-tail (λ vote. text_cmp voter vote.0 ≡ Greater) vote (take i votes) place.after in
      ap (λ r. cond (not (is_eq r)) (vote ∷ others) others) head
      ∙ ap (λ l. vote ∷ l) (others-place voter votes i (second _ _ sorted) (record { within = omega (arith, place.within); after = tail; same = place.same }))

  -- a vote that isn't there can't go
  pub remove-absent : (m : FinMap text_cmp X) (voter : Text) → get m voter ≡ None → m ≡ remove m voter
  remove-absent m voter none = same_map text_total text_IsAntisymmetric m (remove m voter) (λ q. told q (text_cmp q voter) refl ∙ sym (get-remove text_total m voter q))
    where
      told : (q : Text) (r : Ordering) → text_cmp q voter ≡ r → get m q ≡ cond (eq_by_cmp text_cmp q voter) None (get m q)
      told q Equal tie = ap (get m) (text_IsAntisymmetric q voter tie) ∙ none ∙ sym (ap (λ r. cond (is_eq r) None (get m q)) tie)
      told q Less apart = sym (ap (λ r. cond (is_eq r) None (get m q)) apart)
      told q Greater apart = sym (ap (λ r. cond (is_eq r) None (get m q)) apart)

  -- ---- the same for the map that votes in order are seen as

  pub get-view : (votes : List (Text × X)) (voter : Text) → is_sorted text_cmp votes ≡ true → get (from_sorted {R = text_cmp} votes) voter ≡ find text_cmp voter votes
  get-view votes voter sorted = get-from_sorted text_cmp votes voter (is_true _ sorted)

  pub insert-view : (votes : List (Text × X)) (voter : Text) (value : X) → is_sorted text_cmp votes ≡ true → entries (insert (from_sorted {R = text_cmp} votes) voter value) ≡ put text_cmp voter value votes
  insert-view votes voter value sorted = entries-insert text_total (from_sorted votes) voter value ∙ ap (put text_cmp voter value) (entries-view votes sorted)

  pub remove-view : (votes : List (Text × X)) (voter : Text) (i : ℕ) → is_sorted text_cmp votes ≡ true → IsPlaceOf voter votes i →
      entries (remove (from_sorted {R = text_cmp} votes) voter) ≡ take i votes ++ drop (suc i) votes
  remove-view votes voter i sorted place =
      entries-remove (from_sorted votes) voter ∙ ap (where_key text_cmp (λ x. not (eq_by_cmp text_cmp voter x))) (entries-view votes sorted) ∙ others-place voter votes i sorted place

-- ---- the sum

count_by-map : {A B : Type 0} (p : B → Bool) (f : A → B) (xs : List A) → count_by p (map f xs) ≡ count_by (λ x. p (f x)) xs
count_by-map p f [] = refl
count_by-map p f (x ∷ xs) =
    sum_by-cons (λ y. cond (p y) 1 0) (f x) (map f xs)
    ∙ ap (λ n. cond (p (f x)) 1 0 + n) (count_by-map p f xs)
    ∙ sym (sum_by-cons (λ y. cond (p (f y)) 1 0) x xs)

pub vote_sum-view : (votes : List (Text × VoteValue)) → is_sorted text_cmp votes ≡ true →
    vote_sum (from_sorted votes) ≡ pos (1 + count_by (λ vote. vote_eq For vote.1) votes) -ℤ pos (count_by (λ vote. vote_eq Against vote.1) votes)
vote_sum-view votes sorted =
    let listed : values (from_sorted {R = text_cmp} votes) ≡ map (λ e. e.1) votes = ap (map (λ e. e.1)) (entries-view votes sorted) in
    ap (λ (bs : List VoteValue). pos (1 + count_by is_for bs) -ℤ pos (count_by (λ b. not (is_for b)) bs)) listed
    ∙ (λ i. pos (1 + count_by-map is_for (λ (e : Text × VoteValue). e.1) votes i) -ℤ pos (count_by-map (λ b. not (is_for b)) (λ (e : Text × VoteValue). e.1) votes i))
