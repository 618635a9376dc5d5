-- How the walk of a router goes on over whole segments of a path.
use Rattle.std.proofs.Common.{ap₂, ◌≡◌, ◌≢◌, ℕ, suc, ◌+◌, ◌-◌, ◌<◌, ◌==◌, List, [], ◌∷◌, ◌++◌, length, drop, Option, Some, None, Bool, true, false, cond, refl, sym, ap, ◌∙◌, arith, nat_eq, ltb, ◌&&◌, not, append-nil}
use Rattle.std.specs.Prelude.{nat_lt, if◌then◌else◌, option_map}
use Rattle.std.specs.List.{ends_with}
use Rattle.std.specs.Str.{bytes_eq}
use Rattle.std.proofs.lemmas.Bool.Decides.{nat_tests}
use Rattle.std.proofs.Math.Seq.{drop-append_seam}
use Rattle.std.proofs.lemmas.List.{length-append}
use Rattle.matchit.specs.Rows.{Rows, prepend, param_token, catch_all_token}
use Rattle.matchit.specs.Level.{IsText, AllSegment}
use Rattle.matchit.specs.Seek.{own, step, or_else, seek, first, after_param, param_step, segment, has_slash, cuts, better, longest_suffix}
use Rattle.matchit.proofs.SeekLemmas.{prepend-nil, own-append, own-prepend, step-append, step-hit, step-miss, or_else-none, param_step-empty, seek-empty, seek-drop, seek-lit}
use Rattle.matchit.proofs.LongestLemmas.{longest-kid, better-yes, better-no}
use Rattle.matchit.proofs.ParamLemmas.{with_suffix-all, drop-length, one_less, seek-after, after_param-end, after_param-stop}
use Rattle.matchit.proofs.ConflictLemmas.{and-cases}
use Rattle.http_messages.specs.Heads.{cut_at}

-- ---- a path cut at its first slash

same_cut : (p q : List ℕ × List ℕ) → Some p ≡ Some q → (p.0 ≡ q.0) × (p.1 ≡ q.1)
same_cut p q e = let same : p ≡ q = cc in (ap (λ (x : List ℕ × List ℕ). x.0) same, ap (λ (x : List ℕ × List ℕ). x.1) same)

-- a path with one byte more in front, which may be a slash
abbrev pub cut_more : ℕ → List ℕ → Bool → Option (List ℕ × List ℕ) → Option (List ℕ × List ℕ)
cut_more b p t o = if t then Some ([], p) else option_map (λ parts. (b ∷ parts.0, parts.1)) o

pub cut_is : (p s rest : List ℕ) → cut_at 47 p ≡ Some (s, rest) → p ≡ s ++ 47 ∷ rest
cut_is [] s rest e = absurd cc
cut_is (b ∷ p) s rest e = by (b == 47) refl (cut_at 47 p) (cut_is p) e
  where
    by : (t : Bool) → (b == 47) ≡ t → (o : Option (List ℕ × List ℕ)) → ((s rest : List ℕ) → o ≡ Some (s, rest) → p ≡ s ++ 47 ∷ rest) → cut_more b p t o ≡ Some (s, rest) → b ∷ p ≡ s ++ 47 ∷ rest
    by true q o c e2 =
        let x : b ≡ 47 = grind (arith, nat_tests) in
        let both = same_cut ([], p) (s, rest) e2 in
        rw (x, ← both.0, ← both.1) refl
    by false q None c e2 = absurd cc
    by false q (Some parts) c e2 =
        let both = same_cut (b ∷ parts.0, parts.1) (s, rest) e2 in
        rw (← both.0, ← both.1) (ap (λ x. b ∷ x) (c parts.0 parts.1 refl))

-- the part in front has no slash
pub whole_segment : (p : List ℕ) → cut_at 47 p ≡ None → (segment p ≡ p) × (has_slash p ≡ false)
whole_segment [] e = (refl, refl)
whole_segment (b ∷ p) e = by (b == 47) refl (cut_at 47 p) (whole_segment p) e
  where
    by : (t : Bool) → (b == 47) ≡ t → (o : Option (List ℕ × List ℕ)) → (o ≡ None → (segment p ≡ p) × (has_slash p ≡ false)) → cut_more b p t o ≡ None → (segment (b ∷ p) ≡ b ∷ p) × (has_slash (b ∷ p) ≡ false)
    by true q o c e2 = absurd cc
    by false q (Some parts) c e2 = absurd cc
    by false q None c e2 = let r = c refl in rw q (ap (λ x. b ∷ x) r.0, r.1)

pub cut_segment : (p s rest : List ℕ) → cut_at 47 p ≡ Some (s, rest) → (segment p ≡ s ++ 47 ∷ []) × (has_slash p ≡ true)
cut_segment [] s rest e = absurd cc
cut_segment (b ∷ p) s rest e = by (b == 47) refl (cut_at 47 p) (cut_segment p) e
  where
    by : (t : Bool) → (b == 47) ≡ t → (o : Option (List ℕ × List ℕ)) → ((s rest : List ℕ) → o ≡ Some (s, rest) → (segment p ≡ s ++ 47 ∷ []) × (has_slash p ≡ true)) → cut_more b p t o ≡ Some (s, rest) → (segment (b ∷ p) ≡ s ++ 47 ∷ []) × (has_slash (b ∷ p) ≡ true)
    by true q o c e2 =
        let x : b ≡ 47 = grind (arith, nat_tests) in
        let both = same_cut ([], p) (s, rest) e2 in
        rw (q, ← both.0) (ap (λ y. y ∷ []) x, refl)
    by false q None c e2 = absurd cc
    by false q (Some parts) c e2 =
        let both = same_cut (b ∷ parts.0, parts.1) (s, rest) e2 in
        let r = c parts.0 parts.1 refl in
        rw (q, ← both.0) (ap (λ x. b ∷ x) r.0, r.1)

-- ---- words

-- bytes without a slash
abbrev pub is_word : List ℕ → Bool
is_word [] = true
is_word (c ∷ word) = (nat_lt c 256 && not (c == 47)) && is_word word

pub word_byte : (c : ℕ) (w : List ℕ) → is_word (c ∷ w) ≡ true → (c < 256) × (c ≢ 47) × (is_word w ≡ true)
word_byte c w h =
    let both = and-cases (nat_lt c 256 && not (c == 47)) (is_word w) h in
    let two = and-cases (nat_lt c 256) (not (c == 47)) both.0 in
    let small : c < 256 = grind (arith, nat_tests) in
    let other : c ≢ 47 = λ e. grind (arith, nat_tests) in
    (small, other, both.1)

pub word_cut : (w : List ℕ) → is_word w ≡ true → cut_at 47 w ≡ None
word_cut [] h = refl
word_cut (c ∷ w) h =
    let parts = word_byte c w h in
    let n : (c == 47) ≡ false = grind (arith, nat_tests) in
    rw (n, word_cut w parts.2) refl

-- what is found behind a word and a slash
abbrev pub behind_word : {A : Type 0} → List ℕ → Option (List ℕ × List ℕ) → (List ℕ → Option A) → Option A
behind_word w None f = None
behind_word w (Some parts) f = if bytes_eq parts.0 w then f parts.1 else None

pub first_word : (w : List ℕ) (r : Rows) (p : List ℕ) → is_word w ≡ true → first (prepend (w ++ 47 ∷ []) r) p ≡ behind_word w (cut_at 47 p) (λ rest. first r rest)
unfolding seek
first_word [] r [] h = own-prepend 47 [] r
first_word [] r (b ∷ p) h = seek-lit 47 [] r b p (omega arith) ∙ by (b == 47) refl (cut_at 47 p)
  where
    by : (t : Bool) → (b == 47) ≡ t → (o : Option (List ℕ × List ℕ)) → first (step b (prepend (47 ∷ []) r)) p ≡ behind_word [] (cut_more b p t o) (λ rest. first r rest)
    by true q o =
        let x : b ≡ 47 = grind (arith, nat_tests) in
        rw (x, step-hit 47 [] r, prepend-nil r) refl
    by false q None =
        let n : 47 ≢ b = λ e. grind (arith, nat_tests) in
        rw (step-miss b 47 [] r n) (seek-empty 0 p)
    by false q (Some parts) =
        let n : 47 ≢ b = λ e. grind (arith, nat_tests) in
        rw (step-miss b 47 [] r n) (seek-empty 0 p)
first_word (c ∷ w) r [] h = own-prepend c (w ++ 47 ∷ []) r
first_word (c ∷ w) r (b ∷ p) h =
    let parts = word_byte c w h in
    seek-lit c (w ++ 47 ∷ []) r b p parts.0 ∙ by parts.1 (b == 47) refl (c == b) refl (cut_at 47 p) (first_word w r p parts.2)
  where
    by : c ≢ 47 → (t : Bool) → (b == 47) ≡ t → (u : Bool) → (c == b) ≡ u → (o : Option (List ℕ × List ℕ)) → first (prepend (w ++ 47 ∷ []) r) p ≡ behind_word w o (λ rest. first r rest)
        → first (step b (prepend (c ∷ (w ++ 47 ∷ [])) r)) p ≡ behind_word (c ∷ w) (cut_more b p t o) (λ rest. first r rest)
    by other true q u k o ih =
        let n : c ≢ b = λ e. grind (arith, nat_tests) in
        rw (step-miss b c (w ++ 47 ∷ []) r n) (seek-empty 0 p)
    by other false q false k None ih =
        let n : c ≢ b = λ e. grind (arith, nat_tests) in
        rw (step-miss b c (w ++ 47 ∷ []) r n) (seek-empty 0 p)
    by other false q false k (Some parts) ih =
        let n : c ≢ b = λ e. grind (arith, nat_tests) in
        let m : nat_eq b c ≡ false = grind (arith, nat_tests) in
        rw (step-miss b c (w ++ 47 ∷ []) r n, m) (seek-empty 0 p)
    by other false q true k None ih =
        let x : c ≡ b = grind (arith, nat_tests) in
        rw (← x, step-hit c (w ++ 47 ∷ []) r) ih
    by other false q true k (Some parts) ih =
        let x : c ≡ b = grind (arith, nat_tests) in
        let m : nat_eq c c ≡ true = grind (arith, nat_tests) in
        rw (← x, step-hit c (w ++ 47 ∷ []) r, m) ih

-- a word at the end of a path
end_nothing : (k b : ℕ) (p : List ℕ) → first (([], k) ∷ []) (b ∷ p) ≡ None
unfolding seek
end_nothing k b p = simp (param_step-empty (b ∷ p), seek-empty 0 p, seek-empty ((param_step {K = ℕ} [] (b ∷ p)).0 - 1) p)

pub first_end : (w : List ℕ) (k : ℕ) (p : List ℕ) → is_word w ≡ true → first (prepend w (([], k) ∷ [])) p ≡ (if bytes_eq p w then Some k else None)
unfolding seek
first_end [] k [] h = refl
first_end [] k (b ∷ p) h = end_nothing k b p
first_end (c ∷ w) k [] h = refl
first_end (c ∷ w) k (b ∷ p) h =
    let parts = word_byte c w h in
    seek-lit c w (([], k) ∷ []) b p parts.0 ∙ by (c == b) refl (first_end w k p parts.2)
  where
    by : (u : Bool) → (c == b) ≡ u → first (prepend w (([], k) ∷ [])) p ≡ (if bytes_eq p w then Some k else None) → first (step b (prepend (c ∷ w) (([], k) ∷ []))) p ≡ (if bytes_eq (b ∷ p) (c ∷ w) then Some k else None)
    by false q ih =
        let n : c ≢ b = λ e. grind (arith, nat_tests) in
        let m : nat_eq b c ≡ false = grind (arith, nat_tests) in
        rw (step-miss b c w (([], k) ∷ []) n, m) (seek-empty 0 p)
    by true q ih =
        let x : c ≡ b = grind (arith, nat_tests) in
        let m : nat_eq c c ≡ true = grind (arith, nat_tests) in
        rw (← x, step-hit c w (([], k) ∷ []), m) ih

-- ---- words side by side

literal : (r : Rows) (b : ℕ) (p : List ℕ) → step param_token r ≡ [] → step catch_all_token r ≡ [] → first r (b ∷ p) ≡ first (step b r) p
unfolding seek
literal r b p h1 h2 = rw (h1, h2) (simp (param_step-empty (b ∷ p), seek-empty ((param_step {K = ℕ} [] (b ∷ p)).0 - 1) p, or_else-none))

pub first_either : (a : ℕ) (w : List ℕ) (r s : Rows) (p : List ℕ) → a < 256 → own s ≡ None → step param_token s ≡ [] → step catch_all_token s ≡ [] → step a s ≡ []
    → first (prepend (a ∷ w) r ++ s) p ≡ or_else (first (prepend (a ∷ w) r) p) (first s p)
unfolding seek
first_either a w r s [] small o h1 h2 h3 = own-append (prepend (a ∷ w) r) s
first_either a w r s (b ∷ p) small o h1 h2 h3 =
    let n1 : a ≢ param_token = λ e. omega arith in
    let n2 : a ≢ catch_all_token = λ e. omega arith in
    let m1 : step param_token (prepend (a ∷ w) r ++ s) ≡ [] = step-append param_token (prepend (a ∷ w) r) s ∙ (rw (step-miss param_token a w r n1) h1) in
    let m2 : step catch_all_token (prepend (a ∷ w) r ++ s) ≡ [] = step-append catch_all_token (prepend (a ∷ w) r) s ∙ (rw (step-miss catch_all_token a w r n2) h2) in
    literal (prepend (a ∷ w) r ++ s) b p m1 m2 ∙ ap (λ x. first x p) (step-append b (prepend (a ∷ w) r) s) ∙ by (a == b) refl ∙ sym (ap₂ or_else (seek-lit a w r b p small) (literal s b p h1 h2))
  where
    by : (u : Bool) → (a == b) ≡ u → first (step b (prepend (a ∷ w) r) ++ step b s) p ≡ or_else (first (step b (prepend (a ∷ w) r)) p) (first (step b s) p)
    by true q =
        let x : a ≡ b = grind (arith, nat_tests) in
        rw (← x, h3, append-nil (step a (prepend (a ∷ w) r)), seek-empty 0 p, or_else-none (first (step a (prepend (a ∷ w) r)) p)) refl
    by false q =
        let n : a ≢ b = λ e. grind (arith, nat_tests) in
        rw (step-miss b a w r n, seek-empty 0 p) refl

-- ---- parts

-- what is found behind a part and a slash
abbrev pub behind_part : {A : Type 0} → Option (List ℕ × List ℕ) → (List ℕ → List ℕ → Option A) → Option A
behind_part None f = None
behind_part (Some ([], rest)) f = None
behind_part (Some (b ∷ s, rest)) f = f (b ∷ s) rest

all_slashed : (r : Rows) → AllSegment (47 ∷ []) (prepend (47 ∷ []) r)
all_slashed [] = tt
all_slashed ((t, k) ∷ r) = (refl, all_slashed r)

slash_ends : (x : List ℕ) → ends_with nat_eq (x ++ 47 ∷ []) (47 ∷ []) ≡ true
slash_ends x =
    let e : length (x ++ 47 ∷ []) - 1 ≡ length x = omega (arith, length-append x (47 ∷ [])) in
    rw (e, drop-append_seam x (47 ∷ [])) refl

no_slash_ends : (p : List ℕ) → has_slash p ≡ false → ends_with nat_eq p (47 ∷ []) ≡ false
no_slash_ends [] h = refl
no_slash_ends (x ∷ []) h = by (x == 47) refl h
  where
    by : (t : Bool) → (x == 47) ≡ t → cond t true false ≡ false → ends_with nat_eq (x ∷ []) (47 ∷ []) ≡ false
    by true q h2 = absurd cc
    by false q h2 = let m : nat_eq 47 x ≡ false = grind (arith, nat_tests) in rw m refl
no_slash_ends (x ∷ y ∷ r) h = by (x == 47) refl (no_slash_ends (y ∷ r)) h
  where
    by : (t : Bool) → (x == 47) ≡ t → (has_slash (y ∷ r) ≡ false → ends_with nat_eq (y ∷ r) (47 ∷ []) ≡ false) → cond t true (has_slash (y ∷ r)) ≡ false → ends_with nat_eq (x ∷ y ∷ r) (47 ∷ []) ≡ false
    by true q more h2 = absurd cc
    by false q more h2 =
        let ih = more h2 in
        let e : length (y ∷ r) - 1 ≡ length r = one_less (length r) in
        let f : length (x ∷ y ∷ r) - 1 ≡ suc (length r) = omega arith in
        rw f (rw e at ih)

-- a route goes on behind a part
some_rows : (r : Rows) → 0 < length r → 0 < length (prepend (47 ∷ []) r)
some_rows [] l = l
some_rows ((t, k) ∷ r) l = omega arith

passes : (r : Rows) (p : List ℕ) → 0 < length r → longest_suffix (segment p) (prepend (47 ∷ []) r) ≡ better (segment p) [] (47 ∷ [])
passes r p l = longest-kid (segment p) [] (47 ∷ []) (prepend (47 ∷ []) r) (all_slashed r) (some_rows r l)

after_whole : (r : Rows) (b : ℕ) (p : List ℕ) → 0 < length r → cut_at 47 (b ∷ p) ≡ None → after_param (prepend (47 ∷ []) r) (b ∷ p) ≡ None
unfolding param_step seek
after_whole r b p l cut =
    let is = whole_segment (b ∷ p) cut in
    let no : cuts (segment (b ∷ p)) (47 ∷ []) ≡ false = grind (arith, nat_tests, no_slash_ends (b ∷ p) is.1, is.0) in
    let none : longest_suffix (segment (b ∷ p)) (prepend (47 ∷ []) r) ≡ [] = passes r (b ∷ p) l ∙ better-no (segment (b ∷ p)) [] (47 ∷ []) (rw no refl) in
    rw (none, is.1, one_less (length p), seek-drop (length p) (prepend (47 ∷ []) r) p, drop-length p) (own-prepend 47 [] r)

after_slash : (r : Rows) (b : ℕ) (p rest : List ℕ) → 0 < length r → cut_at 47 (b ∷ p) ≡ Some ([], rest) → after_param (prepend (47 ∷ []) r) (b ∷ p) ≡ None
unfolding param_step
after_slash r b p rest l cut =
    let is = cut_segment (b ∷ p) [] rest cut in
    let none : longest_suffix (segment (b ∷ p)) (prepend (47 ∷ []) r) ≡ [] = passes r (b ∷ p) l ∙ rw is.0 refl in
    rw (none, is.1) (seek-empty 0 p)

after_part : (r : Rows) (b : ℕ) (p : List ℕ) (c : ℕ) (s rest : List ℕ) → 0 < length r → cut_at 47 (b ∷ p) ≡ Some (c ∷ s, rest) → after_param (prepend (47 ∷ []) r) (b ∷ p) ≡ first r rest
unfolding param_step
after_part r b p c s rest l cut =
    let is = cut_segment (b ∷ p) (c ∷ s) rest cut in
    let long : length (segment (b ∷ p)) ≡ length (c ∷ s) + 1 = rw is.0 (length-append (c ∷ s) (47 ∷ [])) in
    let more : ltb 1 (length (segment (b ∷ p))) ≡ true = grind (arith, nat_tests) in
    let yes : cuts (segment (b ∷ p)) (47 ∷ []) ≡ true = rw more (rw is.0 (slash_ends (c ∷ s))) in
    let all : longest_suffix (segment (b ∷ p)) (prepend (47 ∷ []) r) ≡ 47 ∷ [] = passes r (b ∷ p) l ∙ better-yes (segment (b ∷ p)) [] (47 ∷ []) (rw yes refl) in
    let same : length (segment (b ∷ p)) - 1 ≡ length (c ∷ s) = omega arith in
    let whole : b ∷ p ≡ (c ∷ s) ++ 47 ∷ rest = cut_is (b ∷ p) (c ∷ s) rest cut in
    rw (all, with_suffix-all (47 ∷ []) (prepend (47 ∷ []) r) (all_slashed r), same)
    (seek-after (length (c ∷ s)) (prepend (47 ∷ []) r) b p (omega arith)
    ∙ ap (λ x. first (prepend (47 ∷ []) r) (drop (length (c ∷ s)) x)) whole
    ∙ ap (first (prepend (47 ∷ []) r)) (drop-append_seam (c ∷ s) (47 ∷ rest))
    ∙ seek-lit 47 [] r 47 rest (omega arith)
    ∙ ap (λ x. first x rest) (step-hit 47 [] r ∙ prepend-nil r))

-- a byte isn't the token of a parameter
pub first_part : (r : Rows) (p : List ℕ) → 0 < length r → IsText p → first (prepend (param_token ∷ 47 ∷ []) r) p ≡ behind_part (cut_at 47 p) (λ s rest. first r rest)
unfolding seek
first_part r [] l text = own-prepend param_token (47 ∷ []) r
first_part r (b ∷ p) l text =
    let n : param_token ≢ b = λ e. omega arith in
    let m : param_token ≢ catch_all_token = λ e. omega arith in
    rw (step-miss b param_token (47 ∷ []) r n, step-hit param_token (47 ∷ []) r, step-miss catch_all_token param_token (47 ∷ []) r m, seek-empty 0 p) (or_else-none (after_param (prepend (47 ∷ []) r) (b ∷ p)) ∙ by (cut_at 47 (b ∷ p)) refl)
  where
    by : (o : Option (List ℕ × List ℕ)) → cut_at 47 (b ∷ p) ≡ o → after_param (prepend (47 ∷ []) r) (b ∷ p) ≡ behind_part o (λ s rest. first r rest)
    by None cut = after_whole r b p l cut
    by (Some ([], rest)) cut = after_slash r b p rest l cut
    by (Some (c ∷ s, rest)) cut = after_part r b p c s rest l cut

-- a part at the end of a path
abbrev pub at_end : {A : Type 0} → List ℕ → Option (List ℕ × List ℕ) → A → Option A
at_end [] cut x = None
at_end (b ∷ p) None x = Some x
at_end (b ∷ p) (Some parts) x = None

pub first_last : (k : ℕ) (p : List ℕ) → IsText p → first ((param_token ∷ [], k) ∷ []) p ≡ at_end p (cut_at 47 p) k
unfolding seek
first_last k [] text = refl
first_last k (b ∷ p) text =
    let e : (param_token == b) ≡ false = grind (arith, nat_tests) in
    rw (e, seek-empty 0 p) (or_else-none (after_param (([], k) ∷ []) (b ∷ p)) ∙ by (cut_at 47 (b ∷ p)) refl)
  where
    by : (o : Option (List ℕ × List ℕ)) → cut_at 47 (b ∷ p) ≡ o → after_param (([], k) ∷ []) (b ∷ p) ≡ at_end (b ∷ p) o k
    by None cut = after_param-end [] (Some k) b p tt refl (whole_segment (b ∷ p) cut).1
    by (Some parts) cut = after_param-stop [] (Some k) b p refl (cut_segment (b ∷ p) parts.0 parts.1 cut).1
