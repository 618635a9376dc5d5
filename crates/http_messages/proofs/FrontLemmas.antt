-- The first message of bytes that others may follow.
use Rattle.std.proofs.Common.{◌≡◌, ◌<◌, ◌≤◌, ◌+◌, ℕ, zero, suc, List, [], ◌∷◌, ◌++◌, length, take, drop, Option, Some, None, option_map, Bool, true, false, nat_lt, nat_le, refl, sym, ap, ◌∙◌, subst, arith, length-append, length-take-le, length-drop, min}
use Rattle.std.specs.Prelude.{if◌then◌else◌, ◌==◌, ◌&&◌, IfSome}
use Rattle.std.proofs.lemmas.List.{take-append-le, drop-append-le, take-append-drop, take_min}
use Rattle.std.proofs.Math.Seq.{drop-drop}
use Rattle.std.proofs.lemmas.Bool.Decides.{nat_tests}
use Rattle.byte_streams.specs.Streams.{IsAtEnd}
use Rattle.http_messages.specs.Cut.{end_length, head_cut}
use Rattle.http_messages.specs.Heads.{head_of}
use Rattle.http_messages.specs.declared.refusal.Refusal.{Refusal}
use Rattle.http_messages.specs.declared.refusal.Refusal.TheVariants.{Malformed, LongHead}
use Rattle.http_messages.specs.Streams.{head_limit, first_head, with_head, step, first_step}
use Rattle.http_messages.specs.Arrivals.{asking_with, asking_in, IsRefused, whatever_follows, at_the_end, WantsBody, RefusesHead, Arrives}
use Rattle.http_messages.specs.declared.inbox.Arrival.{Arrival}
use Rattle.http_messages.specs.declared.inbox.Arrival.TheVariants as arrival

-- ---- a head that ended ends there, whatever follows

-- the end of a line that is there
ended_same : (b : ℕ) (bytes more : List ℕ) → 0 < end_length (b ∷ bytes)
    → (end_length (b ∷ (bytes ++ more)) ≡ end_length (b ∷ bytes)) × (end_length (b ∷ bytes) ≤ length (b ∷ bytes))
ended_same b [] more h = absurd (alone (b == 10) h)
  where
    alone : (t : Bool) → 0 < (if t && nat_lt 0 0 then 1 + 0 else 0) → ⊥
    alone true less = omega arith
    alone false less = omega arith
ended_same b (c ∷ []) more h = by (b == 10) (c == 10) (c == 13) refl refl refl
  where
    by : (r s t : Bool) → (b == 10) ≡ r → (c == 10) ≡ s → (c == 13) ≡ t
        → (end_length (b ∷ c ∷ more) ≡ end_length (b ∷ c ∷ [])) × (end_length (b ∷ c ∷ []) ≤ 2)
    by true true t e f g = (rw (e, f) refl, rw (e, f) (omega arith))
    by true false true e f g = let less : 0 < 0 = rw (e, f, g) at h in absurd (omega arith)
    by true false false e f g = let less : 0 < 0 = rw (e, f, g) at h in absurd (omega arith)
    by false s t e f g = let less : 0 < 0 = rw e at h in absurd (omega arith)
ended_same b (c ∷ d ∷ bytes) more h = (refl, by (b == 10) (c == 10) (c == 13) (d == 10))
  where
    by : (r s t u : Bool) → (if r && nat_lt 0 (if s then 1 else if t && u then 2 else 0) then 1 + (if s then 1 else if t && u then 2 else 0) else 0) ≤ suc (suc (suc (length bytes)))
    by true true t u = omega arith
    by true false true true = omega arith
    by true false true false = omega arith
    by true false false u = omega arith
    by false s t u = omega arith

-- where a head ends behind a byte, what follows this byte is long enough to say whether its line ends there
later_same : (b : ℕ) (bytes more h : List ℕ) → head_cut bytes ≡ Some h → end_length (b ∷ (bytes ++ more)) ≡ end_length (b ∷ bytes)
unfolding head_cut
later_same b [] more h is = absurd cc
later_same b (c ∷ []) more h is = absurd (by (c == 10) is)
  where
    by : (t : Bool) → (if nat_lt 0 (if t && nat_lt 0 0 then 1 + 0 else 0) then Some (take (if t && nat_lt 0 0 then 1 + 0 else 0) (c ∷ [])) else option_map (λ (head : List ℕ). c ∷ head) None) ≡ Some h → ⊥
    by true e = cc
    by false e = cc
later_same b (c ∷ d ∷ bytes) more h is = refl

inner : (b : ℕ) (o : Option (List ℕ)) (h : List ℕ) → option_map (λ head. b ∷ head) o ≡ Some h → (g : List ℕ) × (o ≡ Some g)
inner b None h e = absurd cc
inner b (Some g) h e = (g, refl)

pick : {A : Type 0} (n : ℕ) (a b : A) → 0 < n → (if nat_lt 0 n then a else b) ≡ a
pick n a b h = let t : nat_lt 0 n ≡ true = grind (arith, nat_tests) in rw t refl

skip : {A : Type 0} (n : ℕ) (a b : A) → n ≡ 0 → (if nat_lt 0 n then a else b) ≡ b
skip n a b h = rw h refl

cut_here : (b : ℕ) (bytes : List ℕ) → 0 < end_length (b ∷ bytes) → head_cut (b ∷ bytes) ≡ Some (take (end_length (b ∷ bytes)) (b ∷ bytes))
unfolding head_cut
cut_here b bytes h = pick (end_length (b ∷ bytes)) _ _ h

cut_later : (b : ℕ) (bytes : List ℕ) → end_length (b ∷ bytes) ≡ 0 → head_cut (b ∷ bytes) ≡ option_map (λ h. b ∷ h) (head_cut bytes)
unfolding head_cut
cut_later b bytes h = skip (end_length (b ∷ bytes)) _ _ h

cut_none : head_cut [] ≡ None
unfolding head_cut
cut_none = refl

cut_longer : (bytes more h : List ℕ) → head_cut bytes ≡ Some h → head_cut (bytes ++ more) ≡ Some h
cut_longer [] more h is = let none : None ≡ Some h = sym cut_none ∙ is in absurd cc
cut_longer (b ∷ bytes) more h is = by (end_length (b ∷ bytes)) refl (λ g e. cut_longer bytes more g e)
  where
    by : (n : ℕ) → end_length (b ∷ bytes) ≡ n → ((g : List ℕ) → head_cut bytes ≡ Some g → head_cut (bytes ++ more) ≡ Some g) → head_cut (b ∷ (bytes ++ more)) ≡ Some h
    by zero e go_on =
        let found = inner b (head_cut bytes) h (sym (cut_later b bytes e) ∙ is) in
        let later : end_length (b ∷ (bytes ++ more)) ≡ 0 = later_same b bytes more found.0 found.1 ∙ e in
        cut_later b (bytes ++ more) later
        ∙ ap (option_map (λ h. b ∷ h)) (go_on found.0 found.1 ∙ sym found.1)
        ∙ (sym (cut_later b bytes e) ∙ is)
    by (suc n) e go_on =
        let some : 0 < end_length (b ∷ bytes) = omega arith in
        let same = ended_same b bytes more some in
        let some_still : 0 < end_length (b ∷ (bytes ++ more)) = omega arith in
        cut_here b (bytes ++ more) some_still
        ∙ ap (λ k. Some (take k (b ∷ (bytes ++ more)))) same.0
        ∙ ap Some (take-append-le (end_length (b ∷ bytes)) (b ∷ bytes) more same.1)
        ∙ (sym (cut_here b bytes some) ∙ is)

-- ---- the head at the front

front_of_longer : (n : ℕ) (xs ys : List ℕ) → (more : List ℕ) × (take n (xs ++ ys) ≡ take n xs ++ more)
front_of_longer zero xs ys = ([], refl)
front_of_longer (suc n) [] ys = (take (suc n) ys, refl)
front_of_longer (suc n) (x ∷ xs) ys = let later = front_of_longer n xs ys in (later.0, ap (λ l. x ∷ l) later.1)

pub head_stays : (bytes rest front : List ℕ) → first_head bytes ≡ Some front → first_head (bytes ++ rest) ≡ Some front
head_stays bytes rest front is =
    let longer = front_of_longer head_limit bytes rest in
    ap head_cut longer.1 ∙ cut_longer (take head_limit bytes) longer.0 front is

no_head_stays : (bytes rest : List ℕ) → head_limit ≤ length bytes → first_head bytes ≡ None → first_head (bytes ++ rest) ≡ None
no_head_stays bytes rest full none = ap head_cut (take-append-le head_limit bytes rest full) ∙ none

pub no_bytes : first_head [] ≡ None
unfolding head_cut
no_bytes = refl

some_bytes : (bytes front : List ℕ) → first_head bytes ≡ Some front → 0 < length bytes
some_bytes [] front is = let none : None ≡ Some front = sym no_bytes ∙ is in absurd cc
some_bytes (b ∷ bytes) front is = omega arith

-- the head that is found within the limit
pub head_found : (bytes : List ℕ) (k : ℕ) (r : Option ℕ) → k ≡ min head_limit (length bytes) → option_map (λ n. take n (take k bytes)) r ≡ head_cut (take k bytes)
    → IfSome r (λ n. n ≤ length (take k bytes)) → option_map (λ n. take n bytes) r ≡ first_head bytes
head_found bytes k r is cut within = same r within ∙ cut ∙ ap head_cut (ap (λ n. take n bytes) is ∙ take_min head_limit bytes)
  where
    same : (r : Option ℕ) → IfSome r (λ n. n ≤ length (take k bytes)) → option_map (λ n. take n bytes) r ≡ option_map (λ n. take n (take k bytes)) r
    same None w = refl
    same (Some n) w = ap Some (ap (λ l. take n l) (sym (take-append-drop k bytes)) ∙ take-append-le n (take k bytes) (drop k bytes) w)

-- ---- what arrives

pub no_head : (left : Option (List ℕ)) (bytes : List ℕ) (more : Bool) → first_head bytes ≡ None → (more ≡ true → first_head bytes ≡ None → head_limit ≤ length bytes) → (more ≡ false → IsAtEnd left)
    → (arrives : Arrival) → arrives ≡ (if nat_le head_limit (length bytes) then arrival.Refused LongHead else if nat_lt 0 (length bytes) then arrival.Refused Malformed else arrival.End)
    → Arrives left bytes arrives
no_head left bytes more none full end arrives is = subst (Arrives left bytes) (sym is) (by (nat_le head_limit (length bytes)) (nat_lt 0 (length bytes)) refl refl)
  where
    ended : (m : Bool) → (m ≡ true → first_head bytes ≡ None → head_limit ≤ length bytes) → (m ≡ false → IsAtEnd left) → length bytes < head_limit → IsAtEnd left
    ended true f e short = let long : head_limit ≤ length bytes = f refl none in absurd (omega arith)
    ended false f e short = e refl

    too_long : head_limit ≤ length bytes → (rest : List ℕ) → IsRefused (bytes ++ rest) LongHead
    too_long long rest =
        let both = length-append bytes rest in
        let t : nat_lt (length (bytes ++ rest)) head_limit ≡ false = grind (arith, nat_tests) in
        rw (no_head_stays bytes rest long none, t) refl

    in_head : length bytes < head_limit → IsRefused bytes Malformed
    in_head short = let t : nat_lt (length bytes) head_limit ≡ true = grind (arith, nat_tests) in rw (none, t) refl

    nothing : (xs : List ℕ) → length xs ≤ 0 → xs ≡ []
    nothing [] h = refl
    nothing (x ∷ xs) h = absurd (omega arith)

    by : (s t : Bool) → nat_le head_limit (length bytes) ≡ s → nat_lt 0 (length bytes) ≡ t
        → Arrives left bytes (if s then arrival.Refused LongHead else if t then arrival.Refused Malformed else arrival.End)
    by true t e f = let long : head_limit ≤ length bytes = grind (arith, nat_tests) in (omega arith, whatever_follows (too_long long))
    by false true e f =
        let short : length bytes < head_limit = grind (arith, nat_tests) in
        let some : 0 < length bytes = grind (arith, nat_tests) in
        (some, at_the_end (ended more full end short) (in_head short))
    by false false e f =
        let short : length bytes < head_limit = grind (arith, nat_tests) in
        let none_left : length bytes ≤ 0 = grind (arith, nat_tests) in
        (nothing bytes none_left, ended more full end short)

-- behind a head comes what follows it
front_step : (bytes front : List ℕ) (n : ℕ) → first_head bytes ≡ Some front → length front ≡ n → first_step bytes ≡ with_head (head_of front) (drop n bytes)
front_step bytes front n is len = rw is (ap (λ k. with_head (head_of front) (drop k bytes)) len)

pub refused_head : (left : Option (List ℕ)) (bytes : List ℕ) (n : ℕ) (refusal : Refusal) → Some (take n bytes) ≡ first_head bytes → n ≤ length bytes → RefusesHead (head_of (take n bytes)) refusal
    → Arrives left bytes (arrival.Refused refusal)
refused_head left bytes n _ is within refuses = (
  some_bytes bytes (take n bytes) (sym is),
  whatever_follows (λ rest. front_step (bytes ++ rest) (take n bytes) n (head_stays bytes rest (take n bytes) (sym is)) (length-take-le n bytes within) ∙ refuses (drop n (bytes ++ rest))),
)

pub cut_short : (left : Option (List ℕ)) (old piece bytes : List ℕ) (n size : ℕ) → Some (take n old) ≡ first_head old → n ≤ length old → WantsBody (head_of (take n old)) size
    → bytes ≡ old ++ piece → length bytes < n + size → IsAtEnd left → Arrives left bytes (arrival.Refused Malformed)
cut_short left old piece bytes n size is within wants behind short end = subst (λ bs. Arrives left bs (arrival.Refused Malformed)) (sym behind) (
  some_bytes (old ++ piece) (take n old) head,
  at_the_end end (front_step (old ++ piece) (take n old) n head (length-take-le n old within) ∙ wants.short (drop n (old ++ piece)) few),
)
  where
    head : first_head (old ++ piece) ≡ Some (take n old)
    head = head_stays old piece (take n old) (sym is)

    few : length (drop n (old ++ piece)) < size
    few =
        let less : length (old ++ piece) < n + size = subst (λ bs. length bs < n + size) behind short in
        let both = length-append old piece in
        rw (length-drop n (old ++ piece)) (omega arith)

pub whole_message : (left : Option (List ℕ)) (old piece bytes : List ℕ) (n size : ℕ) → Some (take n old) ≡ first_head old → n ≤ length old → WantsBody (head_of (take n old)) size
    → bytes ≡ old ++ piece → n + size ≤ length bytes → Arrives left bytes (arrival.Message (record { head = n; body = size }))
whole_message left old piece bytes n size is within wants behind long = subst (λ bs. Arrives left bs (arrival.Message (record { head = n; body = size }))) (sym behind) (some_bytes (old ++ piece) (take n old) head, enough, each)
  where
    head : first_head (old ++ piece) ≡ Some (take n old)
    head = head_stays old piece (take n old) (sym is)

    enough : n + size ≤ length (old ++ piece)
    enough = subst (λ bs. n + size ≤ length bs) behind long

    within_both : n ≤ length (old ++ piece)
    within_both = let e = enough in omega arith

    enough_behind : size ≤ length (drop n (old ++ piece))
    enough_behind = let e = enough in rw (length-drop n (old ++ piece)) (omega arith)

    each : (rest : List ℕ) → first_step ((old ++ piece) ++ rest) ≡ step (asking_in (old ++ piece) n size) (drop (n + size) (old ++ piece) ++ rest)
    each rest =
        let b = drop n (old ++ piece) in
        let first : first_step ((old ++ piece) ++ rest) ≡ with_head (head_of (take n old)) (b ++ rest) =
        front_step ((old ++ piece) ++ rest) (take n old) n (head_stays (old ++ piece) rest (take n old) head) (length-take-le n old within)
        ∙ ap (with_head (head_of (take n old))) (drop-append-le n (old ++ piece) rest within_both) in
        let longer = length-append b rest in
        let more : size ≤ length (b ++ rest) = let e = enough_behind in omega arith in
        first
        ∙ wants.whole (b ++ rest) more
        ∙ ap (λ body. step (asking_with (head_of (take n old)) body) (drop size (b ++ rest))) (take-append-le size b rest enough_behind)
        ∙ ap (λ behind. step (asking_with (head_of (take n old)) (take size b)) behind) (drop-append-le size b rest enough_behind)
        ∙ ap (λ bs. step (asking_with (head_of (take n old)) (take size b)) (bs ++ rest)) (drop-drop size n (old ++ piece))
        ∙ ap (λ front. step (asking_with (head_of front) (take size b)) (drop (n + size) (old ++ piece) ++ rest)) (sym (take-append-le n old piece within))
