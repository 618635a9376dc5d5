-- Lines of a head, cut and put together: what is between the line ends, and the grammar's line ends.
use Rattle.std.proofs.Common.{◌≡◌, ℕ, Bool, true, false, List, [], ◌∷◌, ◌++◌, map, refl, sym, ap, ◌∙◌, append_assoc, Option, Some, None, option_map}
use Rattle.std.specs.Prelude.{◌==◌, ◌&&◌, ⊤, if◌then◌else◌, MatchOption}
use Rattle.std.specs.List.{list_all}
use Rattle.std.proofs.lemmas.Bool.{false≢true, ne_eqb, eqb-true}
use Rattle.httparse.specs.Grammar.{LineEnd, crlf, lf, print_end}
use Rattle.http_messages.specs.Heads.{without_cr, in_first, ended_lines, text_lines}

-- ---- tests

pub and_true : (a b : Bool) → (a && b) ≡ true → (a ≡ true) × (b ≡ true)
and_true true b h = (refl, h)
and_true false b h = absurd (false≢true h)

pub both_true : (a b : Bool) → a ≡ true → b ≡ true → (a && b) ≡ true
both_true a b p q = rw (p, q) refl

pub if_some : {A : Type 0} (t : Bool) (x y : A) → (if t then Some x else None) ≡ Some y → (t ≡ true) × (x ≡ y)
if_some true x y h = (refl, cc)
if_some false x y h = absurd (cc)

-- a byte that passes a test is none that fails it
pub apart : (test : ℕ → Bool) (b c : ℕ) → test c ≡ false → test b ≡ true → (b == c) ≡ false
apart test b c fails passes = ne_eqb b c (λ e. false≢true (sym fails ∙ ap test (sym e) ∙ passes))

-- ---- clean texts: without CR and LF

abbrev pub IsClean : List ℕ → Type 0
IsClean [] = ⊤
IsClean (b ∷ bytes) = ((b == 10) ≡ false) × ((b == 13) ≡ false) × IsClean bytes

pub clean : (test : ℕ → Bool) → test 10 ≡ false → test 13 ≡ false → (bytes : List ℕ) → list_all test bytes ≡ true → IsClean bytes
clean test lf_fails cr_fails [] h = tt
clean test lf_fails cr_fails (b ∷ bytes) h =
    let both = and_true (test b) (list_all test bytes) h in
    (apart test b 10 lf_fails both.0, apart test b 13 cr_fails both.0, clean test lf_fails cr_fails bytes both.1)

pub clean_append : (a b : List ℕ) → IsClean a → IsClean b → IsClean (a ++ b)
clean_append [] b h k = k
clean_append (x ∷ a) b h k = (h.0, h.1, clean_append a b h.2 k)

-- ---- from a text to its line

abbrev raw : List ℕ → LineEnd → List ℕ
raw text crlf = text ++ 13 ∷ []
raw text lf = text

raw-cons : (b : ℕ) (text : List ℕ) (e : LineEnd) → b ∷ raw text e ≡ raw (b ∷ text) e
raw-cons b text crlf = refl
raw-cons b text lf = refl

in_first-map : (b : ℕ) (line line' : List ℕ) (o : Option (List (List ℕ))) → b ∷ line ≡ line' → in_first b (option_map (λ lines. line ∷ lines) o) ≡ option_map (λ lines. line' ∷ lines) o
in_first-map b line line' None e = refl
in_first-map b line line' (Some lines) e = ap (λ l. Some (l ∷ lines)) e

ended_lines-print : (text : List ℕ) (e : LineEnd) (rest : List ℕ) → IsClean text
    → ended_lines (text ++ (print_end e ++ rest)) ≡ option_map (λ lines. raw text e ∷ lines) (ended_lines rest)
ended_lines-print [] crlf rest h = in_first-map 13 [] (13 ∷ []) (ended_lines rest) refl
ended_lines-print [] lf rest h = refl
ended_lines-print (b ∷ text) e rest h =
    rw (h.0, ended_lines-print text e rest h.2) (in_first-map b (raw text e) (raw (b ∷ text) e) (ended_lines rest) (raw-cons b text e))

without_cr-cr : (text : List ℕ) → without_cr (text ++ 13 ∷ []) ≡ text
without_cr-cr [] = refl
without_cr-cr (b ∷ []) = refl
without_cr-cr (b ∷ c ∷ text) = ap (λ t. b ∷ t) (without_cr-cr (c ∷ text))

without_cr-clean : (text : List ℕ) → IsClean text → without_cr text ≡ text
without_cr-clean [] h = refl
without_cr-clean (b ∷ []) h = rw h.1 refl
without_cr-clean (b ∷ c ∷ text) h = ap (λ t. b ∷ t) (without_cr-clean (c ∷ text) h.2)

without_cr-raw : (text : List ℕ) (e : LineEnd) → IsClean text → without_cr (raw text e) ≡ text
without_cr-raw text crlf h = without_cr-cr text
without_cr-raw text lf h = without_cr-clean text h

map-first : (line text : List ℕ) (o : Option (List (List ℕ))) → without_cr line ≡ text
    → option_map (map without_cr) (option_map (λ lines. line ∷ lines) o) ≡ option_map (λ lines. text ∷ lines) (option_map (map without_cr) o)
map-first line text None e = refl
map-first line text (Some lines) e = ap (λ l. Some (l ∷ map without_cr lines)) e

pub text_lines-print : (text : List ℕ) (e : LineEnd) (rest : List ℕ) → IsClean text
    → text_lines (text ++ (print_end e ++ rest)) ≡ option_map (λ lines. text ∷ lines) (text_lines rest)
text_lines-print text e rest h =
    ap (option_map (map without_cr)) (ended_lines-print text e rest h) ∙ map-first (raw text e) text (ended_lines rest) (without_cr-raw text e h)

-- ---- from lines to the bytes that they stand in

abbrev Raw : List (List ℕ) → List ℕ → Type 0
Raw [] bytes = bytes ≡ []
Raw (line ∷ lines) bytes = (rest : List ℕ) × (bytes ≡ line ++ 10 ∷ rest) × Raw lines rest

abbrev pub Spelled : List (List ℕ) → List ℕ → Type 0
Spelled [] bytes = bytes ≡ []
Spelled (text ∷ texts) bytes = (e : LineEnd) × (rest : List ℕ) × (bytes ≡ text ++ (print_end e ++ rest)) × Spelled texts rest

abbrev AreRaw : List ℕ → Option (List (List ℕ)) → Type 0
AreRaw bytes o = MatchOption o ⊤ (λ lines. Raw lines bytes)

raw_step : (t : Bool) (b : ℕ) (bytes : List ℕ) (o : Option (List (List ℕ))) → (b == 10) ≡ t → AreRaw bytes o
    → AreRaw (b ∷ bytes) (if t then option_map (λ lines. [] ∷ lines) o else in_first b o)
raw_step true b bytes None is h = tt
raw_step true b bytes (Some lines) is h = (bytes, ap (λ x. x ∷ bytes) (eqb-true b 10 is), h)
raw_step false b bytes None is h = tt
raw_step false b bytes (Some []) is h = tt
raw_step false b bytes (Some (line ∷ lines)) is h = (h.0, ap (λ t. b ∷ t) h.1, h.2)

raw_lines : (bytes : List ℕ) → AreRaw bytes (ended_lines bytes)
raw_lines [] = refl
raw_lines (b ∷ bytes) = raw_step (b == 10) b bytes (ended_lines bytes) refl (raw_lines bytes)

abbrev EndsAs : List ℕ → Type 0
EndsAs line = (e : LineEnd) × (line ++ 10 ∷ [] ≡ without_cr line ++ print_end e)

last_end : (t : Bool) (b : ℕ) → (b == 13) ≡ t → (e : LineEnd) × (b ∷ 10 ∷ [] ≡ (if t then [] else b ∷ []) ++ print_end e)
last_end true b is = (crlf, ap (λ x. x ∷ 10 ∷ []) (eqb-true b 13 is))
last_end false b is = (lf, refl)

end_of : (line : List ℕ) → EndsAs line
end_of [] = (lf, refl)
end_of (b ∷ []) = last_end (b == 13) b refl
end_of (b ∷ c ∷ line) = let more = end_of (c ∷ line) in (more.0, ap (λ t. b ∷ t) more.1)

spelled_raw : (lines : List (List ℕ)) (bytes : List ℕ) → Raw lines bytes → Spelled (map without_cr lines) bytes
spelled_raw [] bytes h = h
spelled_raw (line ∷ lines) bytes h =
    let end = end_of line in (
      end.0,
      h.0,
      h.1 ∙ sym (append_assoc line (10 ∷ []) h.0) ∙ ap (λ t. t ++ h.0) end.1 ∙ append_assoc (without_cr line) (print_end end.0) h.0,
      spelled_raw lines h.0 h.2,
    )

spelled_some : (bytes : List ℕ) (o : Option (List (List ℕ))) (texts : List (List ℕ)) → AreRaw bytes o → option_map (map without_cr) o ≡ Some texts → Spelled texts bytes
spelled_some bytes None texts h e = absurd (cc)
spelled_some bytes (Some lines) texts h e =
    let same : map without_cr lines ≡ texts = cc in
    rw (← same) (spelled_raw lines bytes h)

pub spelled : (bytes : List ℕ) (texts : List (List ℕ)) → text_lines bytes ≡ Some texts → Spelled texts bytes
spelled bytes texts e = spelled_some bytes (ended_lines bytes) texts (raw_lines bytes) e
