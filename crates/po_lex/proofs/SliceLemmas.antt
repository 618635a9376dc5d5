-- Slices of slices, and what is found at the front of a text.
use Rattle.std.proofs.Common.{◌≡◌, ◌≢◌, ℕ, ◌<◌, List, [], ◌∷◌, ◌++◌, Bool, true, false, not, length, take, drop, get_or, refl, sym, ◌∙◌, ap, subst, eq-eqb, append_assoc, ◌+◌, arith, Option, Some, None, MatchOption, nat_lt, map, suc, Decides, Result, Ok, Err, IfOk, Bor, ◌⊎◌, inl, inr, ◌&&◌, ◌==◌, cond}
use Rattle.std.proofs.lemmas.Bool.Decides.{nat_tests}
use Rattle.std.specs.Str.{IsCharBoundary}
use Rattle.std.proofs.lemmas.Str.{IsCharBoundary-end, IsCharBoundary-before_ascii}
use Rattle.po_lex.specs.declared.line.Part.{Part as PartToken}
use Rattle.po_lex.specs.declared.line.Part.TheVariants.{Begins, Continues}
use Rattle.po_lex.specs.declared.line.Line.{Line as LineToken}
use Rattle.po_lex.specs.declared.line.Line.TheVariants.{Blank, Translator, Extracted, Reference, Flags, Previous, Message}
use Rattle.std.specs.List.{list_all}
use Rattle.std.proofs.lemmas.List.{append-nil, take-append-drop, drop_more, get_or-take, length-take}
use Rattle.std.proofs.lemmas.Bool.{ne_eqb, eqb-true, false≢true}
use Rattle.memchr.specs.Find.{IsFirstByte, is_byte}
use Rattle.po_lex.specs.declared.fault.FaultKind.{FaultKind}
use Rattle.po_lex.specs.Reading.{is_white, is_all_white, drop_white_end, trim}
use Rattle.po_lex.specs.Lines.{begins_with, lines_of, word_of}
use Rattle.po_lex.specs.PlainTokens.{IsSliceOf, SlicesPart, SlicesLine}

pub all_slice : (text : List ℕ) → IsSliceOf text text
all_slice text = record { before = []; after = []; cut = sym (append-nil text) }

pub slice_behind : (text rest : List ℕ) (mark : ℕ) → text ≡ mark ∷ rest → IsSliceOf text rest
slice_behind text rest mark e = record { before = mark ∷ []; after = []; cut = e ∙ ap (λ t. mark ∷ t) (sym (append-nil rest)) }

pub slice_within : (a b c : List ℕ) → IsSliceOf a b → IsSliceOf b c → IsSliceOf a c
slice_within a b c s t = record {
  before = s.before ++ t.before;
  after = t.after ++ s.after;
  cut = s.cut ∙ ap (λ m. s.before ++ (m ++ s.after)) t.cut ∙ simp append_assoc;
}

pub front_slice : (text : List ℕ) (n : ℕ) → IsSliceOf text (take n text)
front_slice text n = record { before = []; after = drop n text; cut = sym (take-append-drop n text) }

pub back_slice : (text : List ℕ) (n : ℕ) → IsSliceOf text (drop n text)
back_slice text n = record { before = take n text; after = []; cut = sym (take-append-drop n text) ∙ ap (λ t. take n text ++ t) (sym (append-nil (drop n text))) }

-- ---- what begins a text

pub behind_found : (mark : ℕ) (text : List ℕ) (found : Option (Bor (List ℕ))) → MatchOption found ((rest : List ℕ) → text ≢ mark ∷ rest) (λ rest. text ≡ mark ∷ rest.now)
    → MatchOption found (begins_with mark text ≡ false) (λ rest. text ≡ mark ∷ rest.now)
behind_found mark [] None h = refl
behind_found mark (b ∷ text) None h = ne_eqb b mark (λ e. h text (ap (λ c. c ∷ text) e))
behind_found mark text (Some rest) h = h

-- ---- lines

abbrev pub NoLf : List ℕ → Type 0
NoLf line = (i : ℕ) → i < length line → get_or line i 0 ≢ 10

no_lf_rest : (b : ℕ) (line : List ℕ) → NoLf (b ∷ line) → NoLf line
no_lf_rest b line h i lt = h (suc i) (omega arith)

pub line_and_more : (line rest : List ℕ) → NoLf line → lines_of (line ++ 10 ∷ rest) ≡ line ∷ lines_of rest
unfolding lines_of
line_and_more [] rest h = refl
line_and_more (b ∷ line) rest h = let other : b ≢ 10 = h 0 (omega arith) in rw (ne_eqb b 10 other, line_and_more line rest (no_lf_rest b line h)) refl

pub last_line : (b : ℕ) (line : List ℕ) → NoLf (b ∷ line) → lines_of (b ∷ line) ≡ (b ∷ line) ∷ []
unfolding lines_of
last_line b [] h = let other : b ≢ 10 = h 0 (omega arith) in rw (ne_eqb b 10 other) refl
last_line b (c ∷ line) h = let other : b ≢ 10 = h 0 (omega arith) in rw (ne_eqb b 10 other, last_line c line (no_lf_rest b (c ∷ line) h)) refl

-- ---- items

some_item : (b : ℕ) (item : List ℕ) → is_white b ≡ false → nat_lt 0 (length (trim (b ∷ item))) ≡ not (is_all_white (b ∷ item))
some_item b item e =
    let all : is_all_white (b ∷ item) ≡ false = rw e refl in
    let same : trim (b ∷ item) ≡ b ∷ drop_white_end item = rw (e, e) refl in
    rw (same, all) (le_one (length (drop_white_end item)))
  where
    le_one : (n : ℕ) → nat_lt 0 (suc n) ≡ true
    le_one n = grind arith

item_there : (item : List ℕ) → nat_lt 0 (length (trim item)) ≡ not (is_all_white item)
item_there [] = refl
item_there (b ∷ item) = by_white (is_white b) refl (item_there item)
  where
    by_white : (w : Bool) → is_white b ≡ w → nat_lt 0 (length (trim item)) ≡ not (is_all_white item) → nat_lt 0 (length (trim (b ∷ item))) ≡ not (is_all_white (b ∷ item))
    by_white true e rest = rw e rest
    by_white false e rest = some_item b item e

pub items_there : (parts : List (List ℕ)) → list_all (λ item. nat_lt 0 (length item)) (map trim parts) ≡ list_all (λ item. not (is_all_white item)) parts
items_there [] = refl
items_there (part ∷ parts) = rw (item_there part, items_there parts) refl

pub no_lines : (text : List ℕ) → length text ≡ 0 → lines_of text ≡ []
unfolding lines_of
no_lines [] h = refl
no_lines (b ∷ text) h = absurd (omega arith)

-- what a split at the first LF says
pub cut_at_lf : (text line rest : List ℕ) → (text ≡ line ++ 10 ∷ rest) × NoLf line → lines_of text ≡ line ∷ lines_of rest
cut_at_lf text line rest h = ap lines_of h.0 ∙ line_and_more line rest h.1

pub not_cut : (text : List ℕ) → 0 < length text → NoLf text → lines_of text ≡ text ∷ lines_of []
unfolding lines_of
not_cut [] h n = absurd (omega arith)
not_cut (b ∷ line) h n = last_line b line n

-- what the first place of an LF says
pub lf_found : (text : List ℕ) (n : ℕ) → IsFirstByte (is_byte 10) text (Some n) → lines_of text ≡ take n text ∷ lines_of (drop (n + 1) text)
lf_found text n h =
    let lf : get_or text n 0 ≡ 10 = eqb-true (get_or text n 0) 10 h.1 in
    let cut : text ≡ take n text ++ 10 ∷ drop (n + 1) text = sym (take-append-drop n text) ∙ ap (λ t. take n text ++ t) (drop_more text n 0 h.0.high ∙ ap (λ b. b ∷ drop (n + 1) text) lf) in
    cut_at_lf text (take n text) (drop (n + 1) text) (cut, no_lf_before)
  where
    no_lf_before : NoLf (take n text)
    no_lf_before i lt e =
        let below : i < n = omega (arith, length-take n text) in
        h.0.before i (omega arith) below (eq-eqb (get_or text i 0) 10 (sym (get_or-take n text i 0 below) ∙ e))

pub lf_ends : (text : List ℕ) (n : ℕ) → IsFirstByte (is_byte 10) text (Some n) → get_or text n 0 < 128
lf_ends text n h = let lf : get_or text n 0 ≡ 10 = eqb-true (get_or text n 0) 10 h.1 in omega arith

pub lf_nowhere : (text : List ℕ) → 0 < length text → IsFirstByte (is_byte 10) text None → lines_of text ≡ text ∷ lines_of []
lf_nowhere text some h = not_cut text some (λ i lt e. h i (omega arith) lt (eq-eqb (get_or text i 0) 10 e))

-- ---- words

pub word_taken : (text : List ℕ) → take (length (word_of text)) text ≡ word_of text
word_taken [] = refl
word_taken (b ∷ text) = by_white (is_white b) refl (word_taken text)
  where
    by_white : (w : Bool) → is_white b ≡ w → take (length (word_of text)) text ≡ word_of text → take (length (word_of (b ∷ text))) (b ∷ text) ≡ word_of (b ∷ text)
    by_white true e rest = rw e refl
    by_white false e rest = rw e (ap (λ t. b ∷ t) rest)

-- a word ends with the text, or at a byte that is white
abbrev Stops : List ℕ → ℕ → Type 0
Stops text n = (n ≡ length text) ⊎ ((n < length text) × (get_or text n 0 < 128))

white_small : (b : ℕ) → is_white b ≡ true → b < 128
white_small b e = grind (arith, nat_tests)

word_stops : (text : List ℕ) → Stops text (length (word_of text))
word_stops [] = inl refl
word_stops (b ∷ text) = by_white (is_white b) refl (word_stops text)
  where
    by_white : (w : Bool) → is_white b ≡ w → Stops text (length (word_of text)) → Stops (b ∷ text) (length (word_of (b ∷ text)))
    by_white true e rest = rw e (inr (omega arith, white_small b e))
    by_white false e (inl h) = rw e (inl (ap suc h))
    by_white false e (inr h) = rw e (inr (omega arith, h.1))

pub word_boundary : (text : List ℕ) → IsCharBoundary text (length (word_of text))
word_boundary text = elim (word_stops text) [ inl h ↦ rw h (IsCharBoundary-end text) | inr h ↦ IsCharBoundary-before_ascii text (length (word_of text)) h.0 h.1 ]

-- ---- slices of lines

pub slice_same : (a b c : List ℕ) → IsSliceOf a b → c ≡ b → IsSliceOf a c
slice_same a b c s e = subst (λ t. IsSliceOf a t) (sym e) s

pub part_within : (a b : List ℕ) (part : PartToken) → IsSliceOf a b → SlicesPart b part → SlicesPart a part
part_within a b (Begins keyword raw) s h = slice_within a b raw.now s h
part_within a b (Continues raw) s h = slice_within a b raw.now s h

pub line_within : (a b : List ℕ) (line : LineToken) → IsSliceOf a b → SlicesLine b line → SlicesLine a line
line_within a b Blank s h = tt
line_within a b (Translator text) s h = slice_within a b text.now s h
line_within a b (Extracted text) s h = slice_within a b text.now s h
line_within a b (Reference text) s h = slice_within a b text.now s h
line_within a b (Flags text) s h = slice_within a b text.now s h
line_within a b (Previous obsolete part) s h = part_within a b part s h
line_within a b (Message obsolete part) s h = part_within a b part s h

pub ok_within : (a b : List ℕ) (read : Result LineToken FaultKind) → IsSliceOf a b → IfOk read (λ line. SlicesLine b line) → IfOk read (λ line. SlicesLine a line)
ok_within a b (Ok line) s h = line_within a b line s h
ok_within a b (Err kind) s h = tt

pub ok_same : (a : List ℕ) (line : LineToken) (read : Result LineToken FaultKind) → IfOk read (λ told. told ≡ line) → SlicesLine a line → IfOk read (λ told. SlicesLine a told)
ok_same a line (Ok told) e s = subst (λ (l : LineToken). SlicesLine a l) (sym e) s
ok_same a line (Err kind) e s = tt

-- what a test of the first character says
pub first_tested : (mark : ℕ) (text : List ℕ) (r : Bool) → 0 < mark → Decides r (get_or text 0 0 ≡ mark) → r ≡ begins_with mark text
first_tested mark [] true above h = absurd (omega (arith, h.0 refl))
first_tested mark [] false above h = refl
first_tested mark (b ∷ text) true above h = sym (eq-eqb b mark (h.0 refl))
first_tested mark (b ∷ text) false above h = sym (ne_eqb b mark (λ e. absurd (false≢true (h.1 e))))

-- ---- white at the end

and_true : (b : Bool) → (b && true) ≡ b
and_true true = refl
and_true false = refl

white_pushed : (front : List ℕ) (w : ℕ) → is_white w ≡ true → is_all_white (front ++ w ∷ []) ≡ is_all_white front
white_pushed [] w h = ap (λ b. b && true) h
white_pushed (b ∷ front) w h = ap (λ t. is_white b && t) (white_pushed front w h)

pub end_white : (front : List ℕ) (w : ℕ) → is_white w ≡ true → drop_white_end (front ++ w ∷ []) ≡ drop_white_end front
end_white [] w h = ap (λ b. cond (b && true) [] (w ∷ [])) h
end_white (b ∷ front) w h =
    ap (λ t. cond (is_white b && t) [] (b ∷ drop_white_end (front ++ w ∷ []))) (white_pushed front w h)
    ∙ ap (λ t. cond (is_white b && is_all_white front) [] (b ∷ t)) (end_white front w h)

-- a text that doesn't end in white
abbrev pub EndsBlack : List ℕ → Type 0
EndsBlack text = (front : List ℕ) (w : ℕ) → is_white w ≡ true → text ≢ front ++ w ∷ []

cut_white : (b : ℕ) (c : ℕ) (text : List ℕ) (t : Bool) → is_all_white (b ∷ c ∷ text) ≡ t → drop_white_end (c ∷ text) ≡ c ∷ text → cond t [] (b ∷ drop_white_end (c ∷ text)) ≡ b ∷ c ∷ text
cut_white b c text false e h = ap (λ t. b ∷ t) h
cut_white b c text true e h =
    let rest : is_all_white (c ∷ text) ≡ true = second (is_white b) (is_all_white (c ∷ text)) e in
    let none : drop_white_end (c ∷ text) ≡ [] = ap (λ t. cond t [] (c ∷ drop_white_end text)) rest in
    let no : [] ≡ c ∷ text = sym none ∙ h in
    cc
  where
    second : (a b : Bool) → (a && b) ≡ true → b ≡ true
    second true b h = h
    second false b h = cc

pub end_black : (text : List ℕ) → EndsBlack text → drop_white_end text ≡ text
end_black [] h = refl
end_black (b ∷ []) h = by (is_white b) refl
  where
    by : (t : Bool) → is_white b ≡ t → drop_white_end (b ∷ []) ≡ b ∷ []
    by true e = absurd (h [] b e refl)
    by false e = ap (λ t. cond (t && true) [] (b ∷ [])) e
end_black (b ∷ c ∷ text) h = cut_white b c text (is_all_white (b ∷ c ∷ text)) refl (end_black (c ∷ text) (λ front w e same. h (b ∷ front) w e (ap (λ t. b ∷ t) same)))

-- white is a space or a tab
pub ends_black : (text : List ℕ) → ((front : List ℕ) → text ≢ front ++ 32 ∷ []) → ((front : List ℕ) → text ≢ front ++ 9 ∷ []) → EndsBlack text
ends_black text space tab front w e same = by (w == 32) refl
  where
    by : (t : Bool) → (w == 32) ≡ t → ⊥
    by true k = let is : w ≡ 32 = grind (arith, nat_tests) in space front (same ∙ ap (λ b. front ++ b ∷ []) is)
    by false k = let is : w ≡ 9 = grind (arith, nat_tests) in tab front (same ∙ ap (λ b. front ++ b ∷ []) is)

pub tab_before : (text : List ℕ) (found : Option (Bor (List ℕ))) → ((front : List ℕ) → text ≢ front ++ 32 ∷ []) → MatchOption found ((front : List ℕ) → text ≢ front ++ 9 ∷ []) (λ front. text ≡ front.now ++ 9 ∷ [])
    → MatchOption found (drop_white_end text ≡ text) (λ front. drop_white_end text ≡ drop_white_end front.now)
tab_before text None space tab = end_black text (ends_black text space tab)
tab_before text (Some front) space tab = ap drop_white_end tab ∙ end_white front.now 9 refl
