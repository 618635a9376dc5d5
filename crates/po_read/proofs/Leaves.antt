-- What is read from a line of Unicode text is sound.
use Rattle.std.proofs.Common.{◌≡◌, ℕ, ◌+◌, ◌<◌, List, [], ◌∷◌, ◌++◌, Bool, true, false, not, ◌&&◌, ◌||◌, ◌==◌, cond, map, length, drop, get_or, refl, sym, ◌∙◌, ap, subst, Option, Some, None, Result, Ok, Err, lit<, lit≤, arith, append_assoc, nat_lt, is_some, unwrap_or, inl, inr, zero, suc}
use Rattle.std.specs.Prelude.{IsUtf8}
use Rattle.std.specs.Str.{byte, bytes_eq, IsCharBoundary}
use Rattle.std.specs.List.{list_all, slice_split, onto_first, AllByRecursion}
use Rattle.std.proofs.lemmas.Str.{IsUtf8-append, IsUtf8-from_ascii, IsUtf8-take, IsUtf8-drop, IsCharBoundary-before_ascii, IsCharBoundary-after_ascii}
use Rattle.std.proofs.lemmas.List.{append-nil, take_at, drop_at, get_or_at, length-append}
use Rattle.std.proofs.lemmas.Bool.{false≢true}
use Rattle.std.proofs.lemmas.Bool.Decides.{eqb_tells, nat_tests}
use Rattle.po_lex.specs.declared.fault.FaultKind.{FaultKind}
use Rattle.po_lex.specs.declared.fault.FaultKind.TheVariants as kinds
use Rattle.po_lex.specs.declared.line.Keyword.{Keyword}
use Rattle.po_lex.specs.declared.line.Keyword.TheVariants.{Msgctxt, Msgid, MsgidPlural, Msgstr, MsgstrAt}
use Rattle.po_lex.specs.Reading.{◌>>=◌, ok_or, is_white, is_all_white, skip_white, drop_white_end, trim}
use Rattle.po_lex.specs.Escapes.{raw_at, letter_at, unescaped, unescaped_behind, with_front, meaning_of, string_at}
use Rattle.po_lex.specs.Lines.{Part, begins, continues, Line, blank, translator, extracted, reference, flags, previous, message, keywords, keyword_of, find_keyword, keyword_text, word_of, piece_at, part_at, is_comment_text, comment_of, skip_space, items_of, flags_of, spaced, begins_form, previous_at, message_at, obsolete_at, comment_at, begins_with, is_form, line_of, with_byte, lines_of}
use Rattle.po_lex.proofs.SliceLemmas.{word_boundary}
use Rattle.po_text.specs.Strings.{is_string_byte}
use Rattle.po_text.specs.Valid.{IsString, IsCommentLine, IsFlag}
use Rattle.po_read.proofs.Drafts.{IsPreviousPart}
use Rattle.po_read.proofs.Sound.{IsDigitKey, IsSoundPart, IsSoundLine}

-- ---- Unicode text, cut at a byte below 128

abbrev All8 : List (List ℕ) → Type 0
All8 texts = AllByRecursion (λ text. IsUtf8 text) texts

pub utf8_front : (xs ys : List ℕ) (b : ℕ) → IsUtf8 (xs ++ b ∷ ys) → b < 128 → IsUtf8 xs
utf8_front xs ys b u low =
    let at : get_or (xs ++ b ∷ ys) (length xs) 0 ≡ b = get_or_at xs b ys 0 (length xs) refl in
    let lt : length xs < length (xs ++ b ∷ ys) = omega (arith, length-append xs (b ∷ ys)) in
    let small : get_or (xs ++ b ∷ ys) (length xs) 0 < 128 = omega arith in
    subst (λ t. IsUtf8 t) (take_at xs (b ∷ ys) (length xs) refl) (IsUtf8-take (xs ++ b ∷ ys) (length xs) u (IsCharBoundary-before_ascii (xs ++ b ∷ ys) (length xs) lt small))

pub utf8_behind : (b : ℕ) (ys : List ℕ) → IsUtf8 (b ∷ ys) → b < 128 → IsUtf8 ys
utf8_behind b ys u low =
    let lt : 0 < length (b ∷ ys) = omega arith in
    IsUtf8-drop (b ∷ ys) 1 u (subst (λ n. IsCharBoundary (b ∷ ys) n) (let e : 0 + 1 ≡ 1 = omega arith in e) (IsCharBoundary-after_ascii (b ∷ ys) 0 u lt low))

pub utf8_back : (xs ys : List ℕ) (b : ℕ) → IsUtf8 (xs ++ b ∷ ys) → b < 128 → IsUtf8 ys
utf8_back xs ys b u low =
    let at : get_or (xs ++ b ∷ ys) (length xs) 0 ≡ b = get_or_at xs b ys 0 (length xs) refl in
    let lt : length xs < length (xs ++ b ∷ ys) = omega (arith, length-append xs (b ∷ ys)) in
    let small : get_or (xs ++ b ∷ ys) (length xs) 0 < 128 = omega arith in
    let n : length (xs ++ b ∷ []) ≡ length xs + 1 = omega (arith, length-append xs (b ∷ [])) in
    subst (λ t. IsUtf8 t) (ap (drop (length xs + 1)) (sym (append_assoc xs (b ∷ []) ys)) ∙ drop_at (xs ++ b ∷ []) ys (length xs + 1) n)
    (IsUtf8-drop (xs ++ b ∷ ys) (length xs + 1) u (IsCharBoundary-after_ascii (xs ++ b ∷ ys) (length xs) u lt small))

pub utf8_ascii : (b : ℕ) (ys : List ℕ) → b < 128 → IsUtf8 ys → IsUtf8 (b ∷ ys)
utf8_ascii b ys low u = IsUtf8-append (b ∷ []) ys (IsUtf8-from_ascii (b ∷ []) one) u
  where
    one : (i : ℕ) → get_or (b ∷ []) i 0 < 128
    one zero = low
    one (suc i) = lit< tt

-- a byte is the number, or another
either : {A : Type 0} (b k : ℕ) → ((b == k) ≡ true → b ≡ k → A) → ((b == k) ≡ false → A) → A
either b k f g = elim (eqb_tells b k) [ inl h ↦ f h.0 h.1 | inr h ↦ g h.0 ]

-- ---- lines

abbrev onto : List ℕ → List (List ℕ) → List (List ℕ)
onto front [] = front ∷ []
onto front (line ∷ lines) = (front ++ line) ∷ lines

onto_byte : (front : List ℕ) (b : ℕ) (lines : List (List ℕ)) → All8 (onto (front ++ b ∷ []) lines) → All8 (onto front (with_byte b lines))
onto_byte front b [] h = h
onto_byte front b (line ∷ lines) h = (subst (λ t. IsUtf8 t) (append_assoc front (b ∷ []) line) h.0, h.1)

lines_onto : (bytes front : List ℕ) → IsUtf8 (front ++ bytes) → All8 (onto front (lines_of bytes))
unfolding lines_of
lines_onto [] front u = (subst (λ t. IsUtf8 t) (append-nil front) u, tt)
lines_onto (b ∷ bytes) front u = by (b == 10) refl (lines_onto bytes)
  where
    no_front : (lines : List (List ℕ)) → All8 (onto [] lines) → All8 lines
    no_front [] h = tt
    no_front (line ∷ lines) h = h

    by : (t : Bool) → (b == 10) ≡ t → ((f : List ℕ) → IsUtf8 (f ++ bytes) → All8 (onto f (lines_of bytes))) → All8 (onto front (cond t ([] ∷ lines_of bytes) (with_byte b (lines_of bytes))))
    by true e rest =
        let low : b < 128 = grind (arith, nat_tests) in
        (subst (λ t. IsUtf8 t) (sym (append-nil front)) (utf8_front front bytes b u low), no_front (lines_of bytes) (rest [] (utf8_back front bytes b u low)))
    by false e rest = onto_byte front b (lines_of bytes) (rest (front ++ b ∷ []) (subst (λ t. IsUtf8 t) (sym (append_assoc front (b ∷ []) bytes)) u))

pub lines_utf8 : (bytes : List ℕ) → IsUtf8 bytes → All8 (lines_of bytes)
lines_utf8 bytes u = no_front (lines_of bytes) (lines_onto bytes [] u)
  where
    no_front : (lines : List (List ℕ)) → All8 (onto [] lines) → All8 lines
    no_front [] h = tt
    no_front (line ∷ lines) h = h

-- ---- escapes

abbrev meant : ℕ → ℕ
meant letter = unwrap_or (meaning_of letter) letter

by_letter : (P : ℕ → Type 0) (c : ℕ) → P 110 → P 116 → P 114 → P 97 → P 98 → P 102 → P 118 → P 34 → P 92 → (meaning_of c ≡ None → P c) → P c
by_letter P c p110 p116 p114 p97 p98 p102 p118 p34 p92 other =
    let at : (k : ℕ) → P k → (c == k) ≡ true → c ≡ k → P c = λ k p t e. subst P (sym e) p in
    either c 110 (at 110 p110) (λ n110. either c 116 (at 116 p116) (λ n116. either c 114 (at 114 p114) (λ n114. either c 97 (at 97 p97) (λ n97. either c 98 (at 98 p98)
    (λ n98. either c 102 (at 102 p102) (λ n102. either c 118 (at 118 p118) (λ n118. either c 34 (at 34 p34) (λ n34. either c 92 (at 92 p92)
    (λ n92. other (none n110 n116 n114 n97 n98 n102 n118 n34 n92))))))))))
  where
    flip : (k : ℕ) → (c == k) ≡ false → (k == c) ≡ false
    flip k h = grind (arith, nat_tests)

    none : (c == 110) ≡ false → (c == 116) ≡ false → (c == 114) ≡ false → (c == 97) ≡ false → (c == 98) ≡ false → (c == 102) ≡ false → (c == 118) ≡ false → (c == 34) ≡ false → (c == 92) ≡ false → meaning_of c ≡ None
    none a1 a2 a3 a4 a5 a6 a7 a8 a9 = rw (flip 110 a1, flip 116 a2, flip 114 a3, flip 97 a4, flip 98 a5, flip 102 a6, flip 118 a7, flip 34 a8, flip 92 a9) refl

abbrev Utf8Behind : List ℕ → ℕ → Type 0
Utf8Behind raw letter = IsUtf8 (letter ∷ raw) → (IsUtf8 raw → IsUtf8 (unescaped raw)) → (IsUtf8 (letter ∷ raw) → IsUtf8 (letter ∷ unescaped raw)) → IsUtf8 (meant letter ∷ unescaped raw)

letter_utf8 : (letter : ℕ) (raw : List ℕ) → Utf8Behind raw letter
letter_utf8 letter raw = by_letter (Utf8Behind raw) letter (known 110 10 (lit< tt) (lit< tt)) (known 116 9 (lit< tt) (lit< tt)) (known 114 13 (lit< tt) (lit< tt)) (known 97 7 (lit< tt) (lit< tt)) (known 98 8 (lit< tt) (lit< tt)) (known 102 12 (lit< tt) (lit< tt)) (known 118 11 (lit< tt) (lit< tt)) (known 34 34 (lit< tt) (lit< tt)) (known 92 92 (lit< tt) (lit< tt))
    (λ none u f g. subst (λ (m : Option ℕ). IsUtf8 (unwrap_or m letter ∷ unescaped raw)) (sym none) (g u))
  where
    known : (k m : ℕ) → k < 128 → m < 128 → IsUtf8 (k ∷ raw) → (IsUtf8 raw → IsUtf8 (unescaped raw)) → (IsUtf8 (k ∷ raw) → IsUtf8 (k ∷ unescaped raw)) → IsUtf8 (m ∷ unescaped raw)
    known k m lowk lowm u f g = utf8_ascii m (unescaped raw) lowm (f (utf8_behind k raw u lowk))

unescaped_onto : (raw front : List ℕ) → IsUtf8 (front ++ raw) → IsUtf8 (front ++ unescaped raw)
unfolding unescaped unescaped_behind
unescaped_onto [] front u = u
unescaped_onto (c ∷ []) front u = by (c == 92) refl
  where
    by : (t : Bool) → (c == 92) ≡ t → IsUtf8 (front ++ cond t (unescaped_behind []) (c ∷ unescaped []))
    by true e = let low : c < 128 = grind (arith, nat_tests) in subst (λ t. IsUtf8 t) (sym (append-nil front)) (utf8_front front [] c u low)
    by false e = u
unescaped_onto (c ∷ letter ∷ raw) front u = by (c == 92) refl (unescaped_onto (letter ∷ raw)) (unescaped_onto raw)
  where
    by : (t : Bool) → (c == 92) ≡ t → ((f : List ℕ) → IsUtf8 (f ++ letter ∷ raw) → IsUtf8 (f ++ unescaped (letter ∷ raw))) → ((f : List ℕ) → IsUtf8 (f ++ raw) → IsUtf8 (f ++ unescaped raw))
        → IsUtf8 (front ++ cond t (unescaped_behind (letter ∷ raw)) (c ∷ unescaped (letter ∷ raw)))
    by true e one two =
        let low : c < 128 = grind (arith, nat_tests) in
        IsUtf8-append front (meant letter ∷ unescaped raw) (utf8_front front (letter ∷ raw) c u low)
        (letter_utf8 letter raw (utf8_back front (letter ∷ raw) c u low) (λ v. two [] v) (λ v. two (letter ∷ []) v))
    by false e one two = subst (λ t. IsUtf8 t) (append_assoc front (c ∷ []) (unescaped (letter ∷ raw))) (one (front ++ c ∷ []) (subst (λ t. IsUtf8 t) (sym (append_assoc front (c ∷ []) (letter ∷ raw))) u))

-- ---- pieces

-- what stands between quotes: a string of the characters that may stand there, with a quote behind it
abbrev IsRaw : List ℕ → List ℕ → Type 0
IsRaw bytes raw = ((tail : List ℕ) × (bytes ≡ raw ++ 34 ∷ tail)) × (list_all is_string_byte (unescaped raw) ≡ true)

front_ok : (front : List ℕ) (r : Result (List ℕ) FaultKind) (raw : List ℕ) → with_front front r ≡ Ok raw → (rest : List ℕ) × (r ≡ Ok rest) × (raw ≡ front ++ rest)
front_ok front (Ok rest) raw h = (rest, refl, cc)
front_ok front (Err e) raw h = cc

letter_byte : (letter : ℕ) → is_some (meaning_of letter) ≡ true → is_string_byte (meant letter) ≡ true
letter_byte letter = by_letter (λ l. is_some (meaning_of l) ≡ true → is_string_byte (meant l) ≡ true) letter (λ _. refl) (λ _. refl) (λ _. refl) (λ _. refl) (λ _. refl) (λ _. refl) (λ _. refl) (λ _. refl) (λ _. refl)
    (λ none h. absurd (false≢true (ap is_some (sym none) ∙ h)))

high_byte : (c : ℕ) → nat_lt c 32 ≡ false → is_string_byte c ≡ true
high_byte c h = grind (arith, nat_tests)

-- one more character, and an escape
raw_char : (c : ℕ) (bytes raw : List ℕ) → (c == 92) ≡ false → nat_lt c 32 ≡ false → IsRaw bytes raw → IsRaw (c ∷ bytes) (c ∷ raw)
unfolding unescaped
raw_char c bytes raw n low h = ((h.0.0, ap (λ t. c ∷ t) h.0.1), rw (n, high_byte c low) h.1)

raw_escape : (letter : ℕ) (bytes raw : List ℕ) → is_some (meaning_of letter) ≡ true → IsRaw bytes raw → IsRaw (92 ∷ letter ∷ bytes) (92 ∷ letter ∷ raw)
unfolding unescaped unescaped_behind
raw_escape letter bytes raw m h = ((h.0.0, ap (λ t. 92 ∷ letter ∷ t) h.0.1), rw (letter_byte letter m) h.1)

quote_case : (bytes raw : List ℕ) (w : Bool) → cond w (Ok []) (Err kinds.Quote) ≡ Ok raw → IsRaw (34 ∷ bytes) raw
unfolding unescaped
quote_case bytes raw true h = let e : [] ≡ raw = cc in subst (λ r. IsRaw (34 ∷ bytes) r) e ((bytes, refl), refl)
quote_case bytes raw false h = cc

letter_case : (letter : ℕ) (bytes raw : List ℕ) (m : Bool) → is_some (meaning_of letter) ≡ m → ((r : List ℕ) → raw_at bytes ≡ Ok r → IsRaw bytes r) → with_front (92 ∷ []) (cond m (with_front (letter ∷ []) (raw_at bytes)) (Err kinds.Escape)) ≡ Ok raw
    → IsRaw (92 ∷ letter ∷ bytes) raw
letter_case letter bytes raw true e ih h =
    let a = front_ok (92 ∷ []) (with_front (letter ∷ []) (raw_at bytes)) raw h in
    let b = front_ok (letter ∷ []) (raw_at bytes) a.0 a.1 in
    subst (λ r. IsRaw (92 ∷ letter ∷ bytes) r) (sym (a.2 ∙ ap (λ t. 92 ∷ t) b.2)) (raw_escape letter bytes b.0 e (ih b.0 b.1))
letter_case letter bytes raw false e ih h = cc

char_case : (c : ℕ) (bytes raw : List ℕ) (low : Bool) → (c == 92) ≡ false → nat_lt c 32 ≡ low → ((r : List ℕ) → raw_at bytes ≡ Ok r → IsRaw bytes r) → cond low (Err kinds.Quote) (with_front (c ∷ []) (raw_at bytes)) ≡ Ok raw → IsRaw (c ∷ bytes) raw
char_case c bytes raw true n e ih h = cc
char_case c bytes raw false n e ih h = let a = front_ok (c ∷ []) (raw_at bytes) raw h in subst (λ r. IsRaw (c ∷ bytes) r) (sym a.2) (raw_char c bytes a.0 n e (ih a.0 a.1))

raw_is : (bytes raw : List ℕ) → raw_at bytes ≡ Ok raw → IsRaw bytes raw
unfolding raw_at letter_at
raw_is [] raw h = cc
raw_is (c ∷ []) raw h = by (c == 34) (c == 92) refl refl h
  where
    by : (q b : Bool) → (c == 34) ≡ q → (c == 92) ≡ b → cond q (cond (is_all_white []) (Ok []) (Err kinds.Quote)) (cond b (with_front (c ∷ []) (letter_at [])) (cond (nat_lt c 32) (Err kinds.Quote) (with_front (c ∷ []) (raw_at [])))) ≡ Ok raw → IsRaw (c ∷ []) raw
    by true b e f k = let same : 34 ≡ c = grind (arith, nat_tests) in subst (λ n. IsRaw (n ∷ []) raw) same (quote_case [] raw (is_all_white []) k)
    by false true e f k = cc
    by false false e f k = char_case c [] raw (nat_lt c 32) f refl (λ r x. cc) k
raw_is (c ∷ letter ∷ bytes) raw h = by (c == 34) (c == 92) refl refl (raw_is (letter ∷ bytes)) (raw_is bytes) h
  where
    by : (q b : Bool) → (c == 34) ≡ q → (c == 92) ≡ b → ((r : List ℕ) → raw_at (letter ∷ bytes) ≡ Ok r → IsRaw (letter ∷ bytes) r) → ((r : List ℕ) → raw_at bytes ≡ Ok r → IsRaw bytes r)
        → cond q (cond (is_all_white (letter ∷ bytes)) (Ok []) (Err kinds.Quote)) (cond b (with_front (c ∷ []) (letter_at (letter ∷ bytes))) (cond (nat_lt c 32) (Err kinds.Quote) (with_front (c ∷ []) (raw_at (letter ∷ bytes))))) ≡ Ok raw → IsRaw (c ∷ letter ∷ bytes) raw
    by true b e f one two k = let same : 34 ≡ c = grind (arith, nat_tests) in subst (λ n. IsRaw (n ∷ letter ∷ bytes) raw) same (quote_case (letter ∷ bytes) raw (is_all_white (letter ∷ bytes)) k)
    by false true e f one two k =
        let same : 92 ≡ c = grind (arith, nat_tests) in
        let k' : with_front (92 ∷ []) (letter_at (letter ∷ bytes)) ≡ Ok raw = ap (λ n. with_front (n ∷ []) (letter_at (letter ∷ bytes))) same ∙ k in
        subst (λ n. IsRaw (n ∷ letter ∷ bytes) raw) same (letter_case letter bytes raw (is_some (meaning_of letter)) refl two k')
    by false false e f one two k = char_case c (letter ∷ bytes) raw (nat_lt c 32) f refl one k

bound : {A B : Type 0} (r : Result A FaultKind) (f : A → Result B FaultKind) (b : B) → (r >>= f) ≡ Ok b → (a : A) × (r ≡ Ok a) × (f a ≡ Ok b)
bound (Ok a) f b h = (a, refl, h)
bound (Err e) f b h = cc

there : {A : Type 0} (o : Option A) (e : FaultKind) (a : A) → ok_or o e ≡ Ok a → o ≡ Some a
there (Some x) e a h = cc
there None e a h = cc

same_ok : {A : Type 0} (a b : A) → (let x : Result A FaultKind = Ok a in x) ≡ Ok b → a ≡ b
same_ok a b h = cc

pub piece_sound : (bytes string : List ℕ) → IsUtf8 bytes → piece_at bytes ≡ Ok string → IsString string
piece_sound [] string u h = cc
piece_sound (b ∷ bytes) string u h = by (b == 34) refl h
  where
    found : b ≡ 34 → (raw : List ℕ) → raw_at bytes ≡ Ok raw → IsString (unescaped raw)
    found e raw r =
        let is : IsRaw bytes raw = raw_is bytes raw r in
        let here : IsUtf8 bytes = utf8_behind b bytes u (omega arith) in
        (unescaped_onto raw [] (utf8_front raw is.0.0 34 (subst (λ t. IsUtf8 t) is.0.1 here) (lit< tt)), is.1)

    by : (t : Bool) → (b == 34) ≡ t → cond t (string_at bytes) (Err kinds.Quote) ≡ Ok string → IsString string
    by true e k =
        let r = bound (raw_at bytes) (λ raw. Ok (unescaped raw)) string k in
        let q : b ≡ 34 = grind (arith, nat_tests) in
        subst IsString (same_ok (unescaped r.0) string r.2) (found q r.0 r.1)
    by false e k = cc

-- ---- keywords

find_digit : (word : List ℕ) (among : List Keyword) (k : Keyword) → AllByRecursion IsDigitKey among → find_keyword word among ≡ Some k → IsDigitKey k
find_digit word [] k all h = cc
find_digit word (keyword ∷ among) k all h = by (bytes_eq (keyword_text keyword) word) (find_digit word among k all.1) h
  where
    by : (t : Bool) → (find_keyword word among ≡ Some k → IsDigitKey k) → cond t (Some keyword) (find_keyword word among) ≡ Some k → IsDigitKey k
    by true rest h = let e : keyword ≡ k = cc in subst IsDigitKey e all.0
    by false rest h = rest h

all_digits : AllByRecursion IsDigitKey keywords
all_digits = (tt, (tt, (tt, (tt, (lit≤ tt, (lit≤ tt, (lit≤ tt, (lit≤ tt, (lit≤ tt, (lit≤ tt, (lit≤ tt, (lit≤ tt, tt))))))))))))

pub white_utf8 : (bytes : List ℕ) → IsUtf8 bytes → IsUtf8 (skip_white bytes)
white_utf8 [] u = u
white_utf8 (b ∷ bytes) u = by (is_white b) refl (white_utf8 bytes)
  where
    by : (t : Bool) → is_white b ≡ t → (IsUtf8 bytes → IsUtf8 (skip_white bytes)) → IsUtf8 (cond t (skip_white bytes) (b ∷ bytes))
    by true e rest = rest (utf8_behind b bytes u (grind (arith, nat_tests)))
    by false e rest = u

-- ---- parts

word_sound : (bytes : List ℕ) (keyword : Keyword) (part : Part) → IsUtf8 bytes → keyword_of (word_of bytes) ≡ Some keyword
    → (piece_at (skip_white (drop (length (word_of bytes)) bytes)) >>= λ string. Ok (begins keyword string)) ≡ Ok part → IsSoundPart part
word_sound bytes keyword part u e h =
    let rest = skip_white (drop (length (word_of bytes)) bytes) in
    let r = bound (piece_at rest) (λ string. Ok (begins keyword string)) part h in
    let here : IsUtf8 rest = white_utf8 (drop (length (word_of bytes)) bytes) (IsUtf8-drop bytes (length (word_of bytes)) u (word_boundary bytes)) in
    subst IsSoundPart (same_ok (begins keyword r.0) part r.2) (find_digit (word_of bytes) keywords keyword all_digits e, piece_sound rest r.0 here r.1)

abbrev from_word : List ℕ → Keyword → Result Part FaultKind
from_word bytes keyword = piece_at (skip_white (drop (length (word_of bytes)) bytes)) >>= λ string. Ok (begins keyword string)

abbrev part_by : Bool → List ℕ → Result Part FaultKind
part_by t bytes = cond t (piece_at bytes >>= λ string. Ok (continues string)) (ok_or (keyword_of (word_of bytes)) kinds.Line >>= from_word bytes)

sound_by : (t : Bool) (bytes : List ℕ) (part : Part) → IsUtf8 bytes → part_by t bytes ≡ Ok part → IsSoundPart part
sound_by true bytes part u h = let r = bound (piece_at bytes) (λ string. Ok (continues string)) part h in subst IsSoundPart (same_ok (continues r.0) part r.2) (piece_sound bytes r.0 u r.1)
sound_by false bytes part u h =
    let r = bound (ok_or (keyword_of (word_of bytes)) kinds.Line) (from_word bytes) part h in
    word_sound bytes r.0 part u (there (keyword_of (word_of bytes)) kinds.Line r.0 r.1) r.2

pub part_sound : (bytes : List ℕ) (part : Part) → IsUtf8 bytes → part_at bytes ≡ Ok part → IsSoundPart part
unfolding part_at
part_sound bytes part u h = sound_by (begins_with 34 bytes) bytes part u h

no_form_word : (keyword : Keyword) (string : List ℕ) → is_form (Some keyword) ≡ false → IsPreviousPart (begins keyword string)
no_form_word Msgctxt string h = tt
no_form_word Msgid string h = tt
no_form_word MsgidPlural string h = tt
no_form_word Msgstr string h = cc
no_form_word (MsgstrAt d) string h = cc

previous_by : (t : Bool) (bytes : List ℕ) (part : Part) → begins_form bytes ≡ false → part_by t bytes ≡ Ok part → IsPreviousPart part
previous_by true bytes part n h = let r = bound (piece_at bytes) (λ string. Ok (continues string)) part h in subst IsPreviousPart (same_ok (continues r.0) part r.2) tt
previous_by false bytes part n h =
    let r = bound (ok_or (keyword_of (word_of bytes)) kinds.Line) (from_word bytes) part h in
    let k : keyword_of (word_of bytes) ≡ Some r.0 = there (keyword_of (word_of bytes)) kinds.Line r.0 r.1 in
    let q = bound (piece_at (skip_white (drop (length (word_of bytes)) bytes))) (λ string. Ok (begins r.0 string)) part r.2 in
    subst IsPreviousPart (same_ok (begins r.0 q.0) part q.2) (no_form_word r.0 q.0 (ap is_form (sym k) ∙ n))

previous_kept : (bytes : List ℕ) (part : Part) → begins_form bytes ≡ false → part_at bytes ≡ Ok part → IsPreviousPart part
unfolding part_at
previous_kept bytes part n h = previous_by (begins_with 34 bytes) bytes part n h

-- ---- items

and_both : (a b : Bool) → (a && b) ≡ true → (a ≡ true) × (b ≡ true)
and_both true b h = (refl, h)
and_both false b h = cc

both_and : (a b : Bool) → a ≡ true → b ≡ true → (a && b) ≡ true
both_and true b h k = k
both_and false b h k = cc

skipped_pass : (test : ℕ → Bool) (text : List ℕ) → list_all test text ≡ true → list_all test (skip_white text) ≡ true
skipped_pass test [] h = refl
skipped_pass test (b ∷ text) h = by (is_white b) (skipped_pass test text (and_both _ _ h).1)
  where
    by : (t : Bool) → list_all test (skip_white text) ≡ true → list_all test (cond t (skip_white text) (b ∷ text)) ≡ true
    by true rest = rest
    by false rest = h

ended_pass : (test : ℕ → Bool) (text : List ℕ) → list_all test text ≡ true → list_all test (drop_white_end text) ≡ true
ended_pass test [] h = refl
ended_pass test (b ∷ text) h = by (is_all_white (b ∷ text)) (ended_pass test text (and_both _ _ h).1)
  where
    by : (t : Bool) → list_all test (drop_white_end text) ≡ true → list_all test (cond t [] (b ∷ drop_white_end text)) ≡ true
    by true rest = refl
    by false rest = both_and _ _ (and_both _ _ h).0 rest

trim_pass : (test : ℕ → Bool) (text : List ℕ) → list_all test text ≡ true → list_all test (trim text) ≡ true
trim_pass test text h = ended_pass test (skip_white text) (skipped_pass test text h)

ended_utf8 : (front text : List ℕ) → IsUtf8 (front ++ text) → IsUtf8 (front ++ drop_white_end text)
ended_utf8 front [] u = u
ended_utf8 front (b ∷ text) u = by (is_all_white (b ∷ text)) refl (ended_utf8 (front ++ b ∷ []) text)
  where
    by : (t : Bool) → is_all_white (b ∷ text) ≡ t → (IsUtf8 ((front ++ b ∷ []) ++ text) → IsUtf8 ((front ++ b ∷ []) ++ drop_white_end text)) → IsUtf8 (front ++ cond t [] (b ∷ drop_white_end text))
    by true e rest =
        let white : is_white b ≡ true = (and_both _ _ e).0 in
        let low : b < 128 = grind (arith, nat_tests) in
        subst (λ t. IsUtf8 t) (sym (append-nil front)) (utf8_front front text b u low)
    by false e rest = subst (λ t. IsUtf8 t) (append_assoc front (b ∷ []) (drop_white_end text)) (rest (subst (λ t. IsUtf8 t) (sym (append_assoc front (b ∷ []) text)) u))

ended_white : (text : List ℕ) → is_all_white (drop_white_end text) ≡ is_all_white text
ended_white [] = refl
ended_white (b ∷ text) = by (is_all_white (b ∷ text)) refl (ended_white text)
  where
    by : (t : Bool) → is_all_white (b ∷ text) ≡ t → is_all_white (drop_white_end text) ≡ is_all_white text → is_all_white (cond t [] (b ∷ drop_white_end text)) ≡ is_all_white (b ∷ text)
    by true e rest = sym e
    by false e rest = ap (λ t. is_white b && t) rest

ended_twice : (text : List ℕ) → drop_white_end (drop_white_end text) ≡ drop_white_end text
ended_twice [] = refl
ended_twice (b ∷ text) = by (is_all_white (b ∷ text)) refl (ended_twice text)
  where
    by : (t : Bool) → is_all_white (b ∷ text) ≡ t → drop_white_end (drop_white_end text) ≡ drop_white_end text → drop_white_end (cond t [] (b ∷ drop_white_end text)) ≡ cond t [] (b ∷ drop_white_end text)
    by true e rest = refl
    by false e rest =
        let none : is_all_white (b ∷ drop_white_end text) ≡ false = ap (λ t. is_white b && t) (ended_white text) ∙ e in
        ap (λ t. cond t [] (b ∷ drop_white_end (drop_white_end text))) none ∙ ap (λ t. b ∷ t) rest

-- a text that is empty or begins with what isn't white
abbrev BeginsBlack : List ℕ → Type 0
BeginsBlack [] = Unit {0}
BeginsBlack (b ∷ text) = is_white b ≡ false

skipped_black : (text : List ℕ) → BeginsBlack (skip_white text)
skipped_black [] = tt
skipped_black (b ∷ text) = by (is_white b) refl (skipped_black text)
  where
    by : (t : Bool) → is_white b ≡ t → BeginsBlack (skip_white text) → BeginsBlack (cond t (skip_white text) (b ∷ text))
    by true e rest = rest
    by false e rest = e

black_stays : (text : List ℕ) → BeginsBlack text → skip_white (drop_white_end text) ≡ drop_white_end text
black_stays [] h = refl
black_stays (b ∷ text) h =
    let none : is_all_white (b ∷ text) ≡ false = ap (λ t. t && is_all_white text) h in
    let same : drop_white_end (b ∷ text) ≡ b ∷ drop_white_end text = ap (λ t. cond t [] (b ∷ drop_white_end text)) none in
    ap skip_white same ∙ ap (λ t. cond t (skip_white (drop_white_end text)) (b ∷ drop_white_end text)) h ∙ sym same

trim_twice : (text : List ℕ) → trim (trim text) ≡ trim text
trim_twice text = ap drop_white_end (black_stays (skip_white text) (skipped_black text)) ∙ ended_twice (skip_white text)

-- a part between commas
abbrev is_comma : ℕ → Bool
is_comma b = b == byte ","

abbrev is_text_byte : ℕ → Bool
is_text_byte b = (b == 9) || not (nat_lt b 32)

record IsItem (text : List ℕ) : Type 0 where
  utf8 : IsUtf8 text
  bytes : list_all is_text_byte text ≡ true
  none : list_all (λ b. not (is_comma b)) text ≡ true

pass_both : (test : ℕ → Bool) (a b : List ℕ) → list_all test a ≡ true → list_all test b ≡ true → list_all test (a ++ b) ≡ true
pass_both test [] b h k = k
pass_both test (x ∷ a) b h k = both_and _ _ (and_both _ _ h).0 (pass_both test a b (and_both _ _ h).1 k)

abbrev AllItems : List (List ℕ) → Type 0
AllItems parts = AllByRecursion IsItem parts

item_end : (front : List ℕ) → IsItem front → IsItem (front ++ [])
item_end front h = subst IsItem (sym (append-nil front)) h

onto_more : (front : List ℕ) (b : ℕ) (parts : List (List ℕ)) → AllItems (onto (front ++ b ∷ []) parts) → AllItems (onto front (onto_first b parts))
onto_more front b [] h = h
onto_more front b (part ∷ parts) h = (subst IsItem (append_assoc front (b ∷ []) part) h.0, h.1)

no_front_items : (parts : List (List ℕ)) → AllItems (onto [] parts) → AllItems parts
no_front_items [] h = tt
no_front_items (part ∷ parts) h = h

parts_onto : (bytes front : List ℕ) → IsUtf8 (front ++ bytes) → list_all is_text_byte bytes ≡ true → list_all is_text_byte front ≡ true → list_all (λ b. not (is_comma b)) front ≡ true → AllItems (onto front (slice_split is_comma bytes))
parts_onto [] front u t f n = (item_end front (record { utf8 = subst (λ x. IsUtf8 x) (append-nil front) u; bytes = f; none = n }), tt)
parts_onto (b ∷ bytes) front u t f n = by (is_comma b) refl (parts_onto bytes)
  where
    by : (c : Bool) → is_comma b ≡ c → ((g : List ℕ) → IsUtf8 (g ++ bytes) → list_all is_text_byte bytes ≡ true → list_all is_text_byte g ≡ true → list_all (λ b. not (is_comma b)) g ≡ true → AllItems (onto g (slice_split is_comma bytes)))
        → AllItems (onto front (cond c ([] ∷ slice_split is_comma bytes) (onto_first b (slice_split is_comma bytes))))
    by true e rest =
        let low : b < 128 = grind (arith, nat_tests) in
        (item_end front (record { utf8 = utf8_front front bytes b u low; bytes = f; none = n }), no_front_items (slice_split is_comma bytes) (rest [] (utf8_back front bytes b u low) (and_both _ _ t).1 refl refl))
    by false e rest = onto_more front b (slice_split is_comma bytes)
        (rest (front ++ b ∷ []) (subst (λ x. IsUtf8 x) (sym (append_assoc front (b ∷ []) bytes)) u) (and_both _ _ t).1
        (pass_both is_text_byte front (b ∷ []) f (both_and _ _ (and_both _ _ t).0 refl)) (pass_both (λ b. not (is_comma b)) front (b ∷ []) n (both_and (not (is_comma b)) true (ap not e) refl)))

flag_from : (part : List ℕ) → IsItem part → nat_lt 0 (length (trim part)) ≡ true → IsFlag (trim part)
flag_from part h some = record {
  line = (ended_utf8 [] (skip_white part) (white_utf8 part h.utf8), trim_pass is_text_byte part h.bytes);
  some = grind (arith, nat_tests);
  one = trim_pass (λ b. not (is_comma b)) part h.none;
  trimmed = trim_twice part;
}

flags_from : (parts : List (List ℕ)) → AllItems parts → list_all (λ item. nat_lt 0 (length item)) (map trim parts) ≡ true → AllByRecursion IsFlag (map trim parts)
flags_from [] h some = tt
flags_from (part ∷ parts) h some = (flag_from part h.0 (and_both _ _ some).0, flags_from parts h.1 (and_both _ _ some).1)

items_flags : (text : List ℕ) (line : Line) → IsUtf8 text → flags_of text ≡ Ok line → IsSoundLine line
items_flags text line u h = by (is_comment_text text) (list_all (λ item. nat_lt 0 (length item)) (items_of text)) refl refl h
  where
    by : (a b : Bool) → is_comment_text text ≡ a → list_all (λ item. nat_lt 0 (length item)) (items_of text) ≡ b → cond (a && b) (Ok (flags (items_of text))) (Err kinds.Line) ≡ Ok line → IsSoundLine line
    by true true e f k =
        let same : flags (items_of text) ≡ line = cc in
        subst IsSoundLine same (flags_from (slice_split is_comma text) (no_front_items (slice_split is_comma text) (parts_onto text [] u e refl refl)) f)
    by true false e f k = cc
    by false b e f k = cc

-- ---- whole lines

comment_kept : (form : List ℕ → Line) (text : List ℕ) (line : Line) → ((t : List ℕ) → IsCommentLine t → IsSoundLine (form t)) → IsUtf8 text → comment_of form text ≡ Ok line → IsSoundLine line
comment_kept form text line ok u h = by (is_comment_text text) refl h
  where
    by : (t : Bool) → is_comment_text text ≡ t → cond t (Ok (form text)) (Err kinds.Line) ≡ Ok line → IsSoundLine line
    by true e k = let same : form text ≡ line = cc in subst IsSoundLine same (ok text (u, e))
    by false e k = cc

space_utf8 : (text : List ℕ) → IsUtf8 text → IsUtf8 (skip_space text)
space_utf8 [] u = u
space_utf8 (b ∷ text) u = by (b == 32) refl
  where
    by : (t : Bool) → (b == 32) ≡ t → IsUtf8 (cond t text (b ∷ text))
    by true e = utf8_behind b text u (grind (arith, nat_tests))
    by false e = u

message_kept : (o : Bool) (text : List ℕ) (line : Line) → IsUtf8 text → message_at o text ≡ Ok line → IsSoundLine line
message_kept o text line u h = let r = bound (part_at text) (λ part. Ok (message o part)) line h in subst IsSoundLine (same_ok (message o r.0) line r.2) (part_sound text r.0 u r.1)

before_kept : (o : Bool) (text : List ℕ) (line : Line) → IsUtf8 text → previous_at o text ≡ Ok line → IsSoundLine line
before_kept o text line u h = by (begins_form text) refl h
  where
    by : (t : Bool) → begins_form text ≡ t → cond t (Err kinds.Line) (part_at text >>= λ part. Ok (previous o part)) ≡ Ok line → IsSoundLine line
    by true e k = cc
    by false e k = let r = bound (part_at text) (λ part. Ok (previous o part)) line k in subst IsSoundLine (same_ok (previous o r.0) line r.2) (previous_kept text r.0 e r.1, part_sound text r.0 u r.1)

spaced_kept : (o : Bool) (text : List ℕ) (line : Line) → IsUtf8 text → spaced (previous_at o) text ≡ Ok line → IsSoundLine line
spaced_kept o [] line u h = cc
spaced_kept o (b ∷ text) line u h = by (b == 32) refl h
  where
    by : (t : Bool) → (b == 32) ≡ t → cond t (previous_at o text) (Err kinds.Line) ≡ Ok line → IsSoundLine line
    by true e k = before_kept o text line (utf8_behind b text u (grind (arith, nat_tests))) k
    by false e k = cc

obsolete_kept : (text : List ℕ) (line : Line) → IsUtf8 text → obsolete_at text ≡ Ok line → IsSoundLine line
obsolete_kept [] line u h = cc
obsolete_kept (b ∷ text) line u h = by (b == 32) (b == 124) refl refl h
  where
    by : (s t : Bool) → (b == 32) ≡ s → (b == 124) ≡ t → cond s (message_at true text) (cond t (spaced (previous_at true) text) (Err kinds.Line)) ≡ Ok line → IsSoundLine line
    by true t e f k = message_kept true text line (utf8_behind b text u (grind (arith, nat_tests))) k
    by false true e f k = spaced_kept true text line (utf8_behind b text u (grind (arith, nat_tests))) k
    by false false e f k = cc

mark_kept : (text : List ℕ) (line : Line) → IsUtf8 text → comment_at text ≡ Ok line → IsSoundLine line
mark_kept [] line u h = let same : translator [] ≡ line = cc in subst IsSoundLine same (u, refl)
mark_kept (b ∷ text) line u h = by (b == 46) (b == 58) (b == 44) (b == 124) (b == 126) (b == 61) refl refl refl refl refl refl h
  where
    by : (t1 t2 t3 t4 t5 t6 : Bool) → (b == 46) ≡ t1 → (b == 58) ≡ t2 → (b == 44) ≡ t3 → (b == 124) ≡ t4 → (b == 126) ≡ t5 → (b == 61) ≡ t6
        → cond t1 (comment_of extracted (skip_space text)) (cond t2 (comment_of reference (skip_space text)) (cond t3 (flags_of text) (cond t4 (spaced (previous_at false) text) (cond t5 (obsolete_at text) (cond t6 (Err kinds.Line) (comment_of translator (skip_space (b ∷ text)))))))) ≡ Ok line
        → IsSoundLine line
    by true t2 t3 t4 t5 t6 e1 e2 e3 e4 e5 e6 k = comment_kept extracted (skip_space text) line (λ t c. c) (space_utf8 text (utf8_behind b text u (grind (arith, nat_tests)))) k
    by false true t3 t4 t5 t6 e1 e2 e3 e4 e5 e6 k = comment_kept reference (skip_space text) line (λ t c. c) (space_utf8 text (utf8_behind b text u (grind (arith, nat_tests)))) k
    by false false true t4 t5 t6 e1 e2 e3 e4 e5 e6 k = items_flags text line (utf8_behind b text u (grind (arith, nat_tests))) k
    by false false false true t5 t6 e1 e2 e3 e4 e5 e6 k = spaced_kept false text line (utf8_behind b text u (grind (arith, nat_tests))) k
    by false false false false true t6 e1 e2 e3 e4 e5 e6 k = obsolete_kept text line (utf8_behind b text u (grind (arith, nat_tests))) k
    by false false false false false true e1 e2 e3 e4 e5 e6 k = cc
    by false false false false false false e1 e2 e3 e4 e5 e6 k = comment_kept translator (skip_space (b ∷ text)) line (λ t c. c) (space_utf8 (b ∷ text) u) k

behind_hash : (bytes : List ℕ) → begins_with 35 bytes ≡ true → IsUtf8 bytes → IsUtf8 (drop 1 bytes)
behind_hash [] h u = u
behind_hash (b ∷ bytes) h u = utf8_behind b bytes u (grind (arith, nat_tests))

-- what is read from a line of Unicode text is sound
pub line_sound : (bytes : List ℕ) (line : Line) → IsUtf8 bytes → line_of bytes ≡ Ok line → IsSoundLine line
unfolding line_of
line_sound bytes line u h = by (is_all_white bytes) (begins_with 35 bytes) refl refl h
  where
    by : (w c : Bool) → is_all_white bytes ≡ w → begins_with 35 bytes ≡ c → cond w (Ok blank) (cond c (comment_at (drop 1 bytes)) (message_at false bytes)) ≡ Ok line → IsSoundLine line
    by true c e f k = let same : blank ≡ line = cc in subst IsSoundLine same tt
    by false true e f k = mark_kept (drop 1 bytes) line (behind_hash bytes f u) k
    by false false e f k = message_kept false bytes line u k
