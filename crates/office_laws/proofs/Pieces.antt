-- Pieces and the strings that they stand for; keywords; message lines.
use Rattle.std.proofs.Common.{◌≡◌, ℕ, zero, suc, ◌+◌, ◌<◌, ◌==◌, nat_lt, Bool, true, false, cond, not, List, [], ◌∷◌, ◌++◌, length, drop, Option, Some, None, Result, Ok, Err, is_some, refl, sym, ap, subst, ◌∙◌, arith}
use Rattle.std.specs.Cmp.Lexicographic.{same_text}
use Rattle.std.specs.List.{AllByRecursion, list_all}
use Rattle.std.specs.Prelude.{unwrap_or, ⊤}
use Rattle.std.specs.Str.{bytes_eq}
use Rattle.std.proofs.lemmas.Bool.{and_parts, and_from, eqb-true}
use Rattle.po_lex.specs.declared.fault.FaultKind.{FaultKind}
use Rattle.po_lex.specs.declared.fault.FaultKind.TheVariants as kinds
use Rattle.po_lex.specs.declared.line.Keyword.{Keyword}
use Rattle.po_lex.specs.declared.line.Keyword.TheVariants.{Msgctxt, Msgid, MsgidPlural, Msgstr, MsgstrAt}
use Rattle.po_lex.specs.Reading.{◌>>=◌, ok_or, is_white, is_all_white, skip_white}
use Rattle.po_lex.specs.Escapes.{quote, backslash, meaning_of, with_front, raw_at, letter_at, unescaped, unescaped_behind, string_at}
use Rattle.po_lex.specs.Lines.{Part, begins, continues, keyword_text, keywords, word_of, find_keyword, keyword_of, piece_at, begins_with, part_at}
use Rattle.office_laws.specs.LineForms.{IsString, closed, plain, escape, IsKeyword, IsPart, starts, goes_on}

-- ---- strings

pub ok_of : {A B : Type 0} (r : Result A FaultKind) (f : A → B) (y : B) → (r >>= λ x. Ok (f x)) ≡ Ok y → (x : A) × (r ≡ Ok x) × (y ≡ f x)
ok_of (Ok x) f y e = (x, refl, cc)
ok_of (Err k) f y e = cc

-- what is read behind the first quote is the string that it spells
raw_spells : (n : ℕ) (bytes raw : List ℕ) → length bytes < n → raw_at bytes ≡ Ok raw → IsString bytes (unescaped raw)
unfolding raw_at letter_at unescaped unescaped_behind
raw_spells zero bytes raw less e = absurd (omega arith)
raw_spells (suc n) [] raw less e = cc
raw_spells (suc n) (c ∷ bytes) raw less e = by (raw_spells n) (c == quote) refl (c == backslash) refl (nat_lt c 32) refl e
  where
    letter : ((bytes raw : List ℕ) → length bytes < n → raw_at bytes ≡ Ok raw → IsString bytes (unescaped raw)) → (bytes raw : List ℕ) → length bytes < n + 1
        → letter_at bytes ≡ Ok raw → IsString (backslash ∷ bytes) (unescaped_behind raw)
    letter later [] raw less e = cc
    letter later (l ∷ more) raw less e = there (meaning_of l) refl e
      where
        there : (m : Option ℕ) → meaning_of l ≡ m → cond (is_some m) (with_front (l ∷ []) (raw_at more)) (Err kinds.Escape) ≡ Ok raw → IsString (backslash ∷ l ∷ more) (unescaped_behind raw)
        there None is e = cc
        there (Some m) is e =
            let found = ok_of (raw_at more) (λ r. l ∷ r) raw e in
            let whole : unescaped_behind raw ≡ m ∷ unescaped found.0 = ap unescaped_behind found.2 ∙ ap (λ o. unwrap_or o l ∷ unescaped found.0) is in
            subst (IsString (backslash ∷ l ∷ more)) (sym whole) (escape l m more (unescaped found.0) is (later more found.0 (omega arith) found.1))

    by : ((bytes raw : List ℕ) → length bytes < n → raw_at bytes ≡ Ok raw → IsString bytes (unescaped raw)) → (q : Bool) → (c == quote) ≡ q → (b : Bool) → (c == backslash) ≡ b → (low : Bool) → nat_lt c 32 ≡ low
        → cond q (cond (is_all_white bytes) (Ok []) (Err kinds.Quote)) (cond b (with_front (c ∷ []) (letter_at bytes)) (cond low (Err kinds.Quote) (with_front (c ∷ []) (raw_at bytes)))) ≡ Ok raw
        → IsString (c ∷ bytes) (unescaped raw)
    by later true is b behind low lower e = ended (is_all_white bytes) refl e
      where
        ended : (w : Bool) → is_all_white bytes ≡ w → cond w (Ok []) (Err kinds.Quote) ≡ Ok raw → IsString (c ∷ bytes) (unescaped raw)
        ended true white e =
            let none : [] ≡ raw = cc in
            let first : quote ≡ c = sym (eqb-true c quote is) in
            subst (λ d. IsString (d ∷ bytes) (unescaped raw)) first (subst (λ r. IsString (quote ∷ bytes) (unescaped r)) none (closed bytes white))
        ended false black e = cc
    by later false is true behind low lower e =
        let found = ok_of (letter_at bytes) (λ r. c ∷ r) raw e in
        let first : backslash ≡ c = sym (eqb-true c backslash behind) in
        let whole : unescaped raw ≡ unescaped_behind found.0 = ap unescaped (found.2) ∙ ap (λ d. unescaped (d ∷ found.0)) (sym first) in
        subst (IsString (c ∷ bytes)) (sym whole) (subst (λ d. IsString (d ∷ bytes) (unescaped_behind found.0)) first (letter later bytes found.0 (omega arith) found.1))
    by later false is false other true lower e = cc
    by later false is false other false lower e =
        let found = ok_of (raw_at bytes) (λ r. c ∷ r) raw e in
        let whole : unescaped raw ≡ c ∷ unescaped found.0 = ap unescaped found.2 ∙ ap (λ b. cond b (unescaped_behind found.0) (c ∷ unescaped found.0)) other in
        subst (IsString (c ∷ bytes)) (sym whole) (plain c bytes (unescaped found.0) is other lower (later bytes found.0 (omega arith) found.1))

pub string_spells : (bytes string : List ℕ) → string_at bytes ≡ Ok string → IsString bytes string
string_spells bytes string e =
    let found = ok_of (raw_at bytes) unescaped string e in
    subst (IsString bytes) (sym found.2) (raw_spells (length bytes + 1) bytes found.0 (omega arith) found.1)

-- and it is read
record IsRead (bytes string : List ℕ) : Type 0 where
  raw : List ℕ
  read : raw_at bytes ≡ Ok raw
  stands_for : unescaped raw ≡ string

raw_read : (bytes string : List ℕ) → IsString bytes string → IsRead bytes string
unfolding raw_at letter_at unescaped unescaped_behind
raw_read _ _ (closed white e) = record { raw = []; read = ap (λ b. cond b (Ok []) (Err kinds.Quote)) e; stands_for = refl }
raw_read _ _ (plain c bytes string q b low h) =
    let rest = raw_read bytes string h in
    record {
      raw = c ∷ rest.raw;
      read = (λ i. cond (q i) (cond (is_all_white bytes) (Ok []) (Err kinds.Quote)) (cond (b i) (with_front (c ∷ []) (letter_at bytes)) (cond (low i) (Err kinds.Quote) (with_front (c ∷ []) (rest.read i)))));
      stands_for = ap (λ t. cond t (unescaped_behind rest.raw) (c ∷ unescaped rest.raw)) b ∙ ap (λ s. c ∷ s) rest.stands_for;
    }
raw_read _ _ (escape letter c bytes string is h) =
    let rest = raw_read bytes string h in
    record {
      raw = backslash ∷ letter ∷ rest.raw;
      read = ap (λ m. with_front (backslash ∷ []) (cond (is_some m) (with_front (letter ∷ []) (raw_at bytes)) (Err kinds.Escape))) is
          ∙ ap (λ r. with_front (backslash ∷ []) (with_front (letter ∷ []) r)) rest.read;
      stands_for = ap (λ o. unwrap_or o letter ∷ unescaped rest.raw) is ∙ ap (λ s. c ∷ s) rest.stands_for;
    }

pub string_read : (bytes string : List ℕ) → IsString bytes string → string_at bytes ≡ Ok string
string_read bytes string h =
    let read = raw_read bytes string h in
    ap (λ r. r >>= λ raw. Ok (unescaped raw)) read.read ∙ ap Ok read.stands_for

-- ---- keywords

below_eight : (P : ℕ → Type 0) → P 0 → P 1 → P 2 → P 3 → P 4 → P 5 → P 6 → P 7 → (d : ℕ) → d < 8 → P d
below_eight P a b c d e f g h zero less = a
below_eight P a b c d e f g h (suc zero) less = b
below_eight P a b c d e f g h (suc (suc zero)) less = c
below_eight P a b c d e f g h (suc (suc (suc zero))) less = d
below_eight P a b c d e f g h (suc (suc (suc (suc zero)))) less = e
below_eight P a b c d e f g h (suc (suc (suc (suc (suc zero))))) less = f
below_eight P a b c d e f g h (suc (suc (suc (suc (suc (suc zero)))))) less = g
below_eight P a b c d e f g h (suc (suc (suc (suc (suc (suc (suc zero))))))) less = h
below_eight P a b c d e f g h (suc (suc (suc (suc (suc (suc (suc (suc n)))))))) less = absurd (omega arith)

keyword_there : (k : Keyword) → IsKeyword k → keyword_of (keyword_text k) ≡ Some k
keyword_there Msgctxt h = refl
keyword_there Msgid h = refl
keyword_there MsgidPlural h = refl
keyword_there Msgstr h = refl
keyword_there (MsgstrAt d) h = below_eight (λ d. keyword_of (keyword_text (MsgstrAt d)) ≡ Some (MsgstrAt d)) refl refl refl refl refl refl refl refl d h

abbrev is_word : List ℕ → Bool
is_word word = list_all (λ b. not (is_white b)) word

keyword_is_word : (k : Keyword) → IsKeyword k → is_word (keyword_text k) ≡ true
keyword_is_word Msgctxt h = refl
keyword_is_word Msgid h = refl
keyword_is_word MsgidPlural h = refl
keyword_is_word Msgstr h = refl
keyword_is_word (MsgstrAt d) h = below_eight (λ d. is_word (keyword_text (MsgstrAt d)) ≡ true) refl refl refl refl refl refl refl refl d h

record IsWordOf (word : List ℕ) (k : Keyword) : Type 0 where
  text : word ≡ keyword_text k
  whole : IsKeyword k

found_in : (word : List ℕ) (k : Keyword) (ks : List Keyword) → AllByRecursion IsKeyword ks → find_keyword word ks ≡ Some k → IsWordOf word k
found_in word k [] all e = cc
found_in word k (x ∷ xs) all e = by (found_in word k xs all.1) (bytes_eq (keyword_text x) word) refl e
  where
    by : (find_keyword word xs ≡ Some k → IsWordOf word k) → (b : Bool) → bytes_eq (keyword_text x) word ≡ b → cond b (Some x) (find_keyword word xs) ≡ Some k → IsWordOf word k
    by later true same is =
        let one : x ≡ k = cc in
        subst (IsWordOf word) one (record { text = sym (same_text (keyword_text x) word (sym same)); whole = all.0 })
    by later false other is = later is

all_keywords : AllByRecursion IsKeyword keywords
all_keywords = (tt, (tt, (tt, (tt, (omega arith, (omega arith, (omega arith, (omega arith, (omega arith, (omega arith, (omega arith, (omega arith, tt))))))))))))

-- ---- words and white

abbrev EndsWord : List ℕ → Type 0
EndsWord [] = ⊤
EndsWord (b ∷ rest) = is_white b ≡ true

record IsSplit (bytes word : List ℕ) : Type 0 where
  rest : List ℕ
  whole : bytes ≡ word ++ rest
  behind : drop (length word) bytes ≡ rest
  ends : EndsWord rest

split : (bytes : List ℕ) → IsSplit bytes (word_of bytes)
split [] = record { rest = []; whole = refl; behind = refl; ends = tt }
split (b ∷ bytes) = by (split bytes) (is_white b) refl
  where
    by : IsSplit bytes (word_of bytes) → (w : Bool) → is_white b ≡ w → IsSplit (b ∷ bytes) (cond w [] (b ∷ word_of bytes))
    by later true white = record { rest = b ∷ bytes; whole = refl; behind = refl; ends = white }
    by later false black = record { rest = later.rest; whole = ap (λ l. b ∷ l) later.whole; behind = later.behind; ends = later.ends }

word_ends : (word : List ℕ) → is_word word ≡ true → (w : ℕ) (rest : List ℕ) → is_white w ≡ true → word_of (word ++ w ∷ rest) ≡ word
word_ends [] black w rest white = ap (λ t. cond t [] (w ∷ word_of rest)) white
word_ends (b ∷ word) black w rest white =
    let parts = and_parts (not (is_white b)) (is_word word) black in
    ap (λ t. cond t [] (b ∷ word_of (word ++ w ∷ rest))) (not_true (is_white b) parts.0) ∙ ap (λ l. b ∷ l) (word_ends word parts.1 w rest white)
  where
    not_true : (t : Bool) → not t ≡ true → t ≡ false
    not_true true e = cc
    not_true false e = refl

behind_word : (word rest : List ℕ) → drop (length word) (word ++ rest) ≡ rest
behind_word [] rest = refl
behind_word (b ∷ word) rest = behind_word word rest

white_skipped : (white bytes : List ℕ) → is_all_white white ≡ true → skip_white (white ++ quote ∷ bytes) ≡ quote ∷ bytes
white_skipped [] bytes e = refl
white_skipped (w ∷ white) bytes e =
    let parts = and_parts (is_white w) (is_all_white white) e in
    ap (λ t. cond t (skip_white (white ++ quote ∷ bytes)) (w ∷ (white ++ quote ∷ bytes))) parts.0 ∙ white_skipped white bytes parts.1

record IsWhiteBefore (rest more : List ℕ) : Type 0 where
  white : List ℕ
  all : is_all_white white ≡ true
  whole : rest ≡ white ++ quote ∷ more

skipped_from : (rest more : List ℕ) → skip_white rest ≡ quote ∷ more → IsWhiteBefore rest more
skipped_from [] more e = cc
skipped_from (b ∷ rest) more e = by (skipped_from rest more) (is_white b) refl e
  where
    by : (skip_white rest ≡ quote ∷ more → IsWhiteBefore rest more) → (w : Bool) → is_white b ≡ w → cond w (skip_white rest) (b ∷ rest) ≡ quote ∷ more → IsWhiteBefore (b ∷ rest) more
    by later true white is = let it = later is in record { white = b ∷ it.white; all = and_from (is_white b) (is_all_white it.white) white it.all; whole = ap (λ l. b ∷ l) it.whole }
    by later false black is = record { white = []; all = refl; whole = is }

-- ---- parts

record IsPiece (bytes string : List ℕ) : Type 0 where
  more : List ℕ
  begins : bytes ≡ quote ∷ more
  spells : IsString more string

piece_spells : (bytes string : List ℕ) → piece_at bytes ≡ Ok string → IsPiece bytes string
piece_spells [] string e = cc
piece_spells (b ∷ bytes) string e = by (b == quote) refl e
  where
    by : (q : Bool) → (b == quote) ≡ q → cond q (string_at bytes) (Err kinds.Quote) ≡ Ok string → IsPiece (b ∷ bytes) string
    by true is e = record { more = bytes; begins = ap (λ c. c ∷ bytes) (eqb-true b quote is); spells = string_spells bytes string e }
    by false other e = cc

abbrev behind_keyword : List ℕ → Option Keyword → Result Part FaultKind
behind_keyword rest o = ok_or o kinds.Line >>= λ keyword. piece_at (skip_white rest) >>= λ string. Ok (begins keyword string)

keyword_part : (bytes : List ℕ) (part : Part) (o : Option Keyword) → keyword_of (word_of bytes) ≡ o → behind_keyword (drop (length (word_of bytes)) bytes) o ≡ Ok part → IsPart bytes part
keyword_part bytes part None is e = cc
keyword_part bytes part (Some k) is e =
    let it = split bytes in
    let word = found_in (word_of bytes) k keywords all_keywords is in
    let found = ok_of (piece_at (skip_white (drop (length (word_of bytes)) bytes))) (begins k) part e in
    let piece = piece_spells (skip_white (drop (length (word_of bytes)) bytes)) found.0 found.1 in
    let before = skipped_from it.rest piece.more (ap skip_white (sym it.behind) ∙ piece.begins) in
    subst (IsPart bytes) (sym found.2) (by before.white before.all before.whole (it.whole ∙ ap (λ w. w ++ it.rest) word.text) it.ends word.whole piece.spells)
  where
    by : {rest more string : List ℕ} (white : List ℕ) → is_all_white white ≡ true → rest ≡ white ++ quote ∷ more → bytes ≡ keyword_text k ++ rest → EndsWord rest → IsKeyword k → IsString more string
        → IsPart bytes (begins k string)
    by {rest} {more} {string} [] all is whole ends keyword spells = absurd (let wrong : is_white quote ≡ true = subst EndsWord is ends in cc)
    by {rest} {more} {string} (w ∷ white) all is whole ends keyword spells =
        let parts = and_parts (is_white w) (is_all_white white) all in
        subst (λ b. IsPart b (begins k string)) (sym (whole ∙ ap (λ r. keyword_text k ++ r) is)) (starts k w white more string keyword parts.0 parts.1 spells)

pub part_spells : (bytes : List ℕ) (part : Part) → part_at bytes ≡ Ok part → IsPart bytes part
unfolding part_at
part_spells [] part e = keyword_part [] part (keyword_of (word_of [])) refl e
part_spells (b ∷ bytes) part e = by (b == quote) refl e
  where
    by : (q : Bool) → (b == quote) ≡ q
        → cond q (cond q (string_at bytes) (Err kinds.Quote) >>= λ string. Ok (continues string)) (behind_keyword (drop (length (word_of (b ∷ bytes))) (b ∷ bytes)) (keyword_of (word_of (b ∷ bytes)))) ≡ Ok part
        → IsPart (b ∷ bytes) part
    by true is e =
        let found = ok_of (string_at bytes) continues part e in
        subst (IsPart (b ∷ bytes)) (sym found.2) (subst (λ c. IsPart (c ∷ bytes) (continues found.0)) (sym (eqb-true b quote is)) (goes_on bytes found.0 (string_spells bytes found.0 found.1)))
    by false other e = keyword_part (b ∷ bytes) part (keyword_of (word_of (b ∷ bytes))) refl e

first_of_keyword : (k : Keyword) (rest : List ℕ) → (begins_with quote (keyword_text k ++ rest) ≡ false) × (begins_with 35 (keyword_text k ++ rest) ≡ false) × (is_all_white (keyword_text k ++ rest) ≡ false)
first_of_keyword Msgctxt rest = (refl, refl, refl)
first_of_keyword Msgid rest = (refl, refl, refl)
first_of_keyword MsgidPlural rest = (refl, refl, refl)
first_of_keyword Msgstr rest = (refl, refl, refl)
first_of_keyword (MsgstrAt d) rest = (refl, refl, refl)

pub word_there : (k : Keyword) (w : ℕ) (rest : List ℕ) → IsKeyword k → is_white w ≡ true → keyword_of (word_of (keyword_text k ++ w ∷ rest)) ≡ Some k
word_there k w rest keyword white = ap keyword_of (word_ends (keyword_text k) (keyword_is_word k keyword) w rest white) ∙ keyword_there k keyword

pub part_read : (bytes : List ℕ) (part : Part) → IsPart bytes part → part_at bytes ≡ Ok part
unfolding part_at
part_read _ _ (goes_on bytes string h) = ap (λ r. r >>= λ s. Ok (continues s)) (string_read bytes string h)
part_read _ _ (starts k w white bytes string keyword is_w all h) =
    let rest : List ℕ = w ∷ (white ++ quote ∷ bytes) in
    let text : List ℕ = keyword_text k ++ rest in
    let word : word_of text ≡ keyword_text k = word_ends (keyword_text k) (keyword_is_word k keyword) w (white ++ quote ∷ bytes) is_w in
    let behind : drop (length (word_of text)) text ≡ rest = ap (λ t. drop (length t) text) word ∙ behind_word (keyword_text k) rest in
    let skipped : skip_white rest ≡ quote ∷ bytes = white_skipped (w ∷ white) bytes (and_from (is_white w) (is_all_white white) is_w all) in
    ap (λ b. cond b (piece_at text >>= λ string. Ok (continues string)) (behind_keyword (drop (length (word_of text)) text) (keyword_of (word_of text)))) (first_of_keyword k rest).0
    ∙ (λ i. behind_keyword (behind i) (word_there k w (white ++ quote ∷ bytes) keyword is_w i))
    ∙ ap (λ b. piece_at b >>= λ string. Ok (begins k string)) skipped
    ∙ ap (λ r. r >>= λ string. Ok (begins k string)) (string_read bytes string h)

-- a message line begins with neither white alone nor `#`
pub part_front : (bytes : List ℕ) (part : Part) → IsPart bytes part → (is_all_white bytes ≡ false) × (begins_with 35 bytes ≡ false)
part_front _ _ (goes_on bytes string h) = (refl, refl)
part_front _ _ (starts k w white bytes string keyword is_w all h) = let first = first_of_keyword k (w ∷ (white ++ quote ∷ bytes)) in (first.2, first.1)
