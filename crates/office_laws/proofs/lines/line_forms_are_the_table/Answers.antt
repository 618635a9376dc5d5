use Rattle.std.proofs.Common.{◌≡◌, ℕ, ◌==◌, nat_lt, Bool, true, false, cond, ◌&&◌, ◌||◌, List, [], ◌∷◌, ◌++◌, length, drop, Some, Result, Ok, Err, refl, sym, ap, subst, ◌∙◌}
use Rattle.std.specs.List.{list_all}
use Rattle.std.proofs.lemmas.Bool.{and_parts, and_from, eqb-true}
use Rattle.po_lex.specs.declared.fault.FaultKind.{FaultKind}
use Rattle.po_lex.specs.declared.fault.FaultKind.TheVariants as kinds
use Rattle.po_lex.specs.declared.line.Keyword.TheVariants.{Msgctxt, Msgid, MsgidPlural, Msgstr, MsgstrAt}
use Rattle.po_lex.specs.declared.line.Keyword.{Keyword}
use Rattle.po_lex.specs.Reading.{◌>>=◌, is_all_white}
use Rattle.po_lex.specs.Escapes.{quote}
use Rattle.po_lex.specs.Lines.{Part, begins, Line, blank, translator, extracted, reference, flags, previous, message, begins_with, part_at, is_comment_text, comment_of, skip_space, items_of, flags_of, spaced as behind_space, is_form, begins_form, previous_at, message_at, obsolete_at, comment_at, line_of}
use Rattle.office_laws.specs.LineForms.{IsPart, starts, goes_on, is_translation, IsForm, white, alone, spaced, unspaced, extracted_spaced, extracted_unspaced, reference_spaced, reference_unspaced, flag_items, previous_part, obsolete_part, obsolete_previous, message_part}
use Rattle.office_laws.proofs.Pieces.{part_spells, part_read, part_front, word_there, ok_of}
use Rattle.office_laws.proofs.lines.line_forms_are_the_table.Goals as goal

-- ---- parts

same_kind : (k : Keyword) (string : List ℕ) → is_form (Some k) ≡ is_translation (begins k string)
same_kind Msgctxt string = refl
same_kind Msgid string = refl
same_kind MsgidPlural string = refl
same_kind Msgstr string = refl
same_kind (MsgstrAt d) string = refl

translates : (bytes : List ℕ) (part : Part) → IsPart bytes part → begins_form bytes ≡ is_translation part
translates _ _ (goes_on bytes string h) = refl
translates _ _ (starts k w more bytes string keyword is_w all h) = ap is_form (word_there k w (more ++ quote ∷ bytes) keyword is_w) ∙ same_kind k string

record IsPrevious (bytes : List ℕ) (obsolete : Bool) (line : Line) : Type 0 where
  part : Part
  is : line ≡ previous obsolete part
  other : is_translation part ≡ false
  spells : IsPart bytes part

previous_spells : (obsolete : Bool) (bytes : List ℕ) (line : Line) → previous_at obsolete bytes ≡ Ok line → IsPrevious bytes obsolete line
previous_spells obsolete bytes line e = by (begins_form bytes) refl e
  where
    by : (f : Bool) → begins_form bytes ≡ f → cond f (Err kinds.Line) (part_at bytes >>= λ part. Ok (previous obsolete part)) ≡ Ok line → IsPrevious bytes obsolete line
    by true is e = cc
    by false is e =
        let found = ok_of (part_at bytes) (previous obsolete) line e in
        let spells = part_spells bytes found.0 found.1 in
        record { part = found.0; is = found.2; other = sym (translates bytes found.0 spells) ∙ is; spells = spells }

previous_read : (obsolete : Bool) (bytes : List ℕ) (part : Part) → is_translation part ≡ false → IsPart bytes part → previous_at obsolete bytes ≡ Ok (previous obsolete part)
previous_read obsolete bytes part other h =
    ap (λ f. cond f (Err kinds.Line) (part_at bytes >>= λ part. Ok (previous obsolete part))) (translates bytes part h ∙ other)
    ∙ ap (λ r. r >>= λ part. Ok (previous obsolete part)) (part_read bytes part h)

-- ---- from the line to its form

with_front : (b k : ℕ) (bytes : List ℕ) (line : Line) → (b == k) ≡ true → IsForm (35 ∷ k ∷ bytes) line → IsForm (35 ∷ b ∷ bytes) line
with_front b k bytes line same h = subst (λ c. IsForm (35 ∷ c ∷ bytes) line) (sym (eqb-true b k same)) h

record IsComment (form : List ℕ → Line) (text : List ℕ) (line : Line) : Type 0 where
  is : line ≡ form text
  fit : is_comment_text text ≡ true

commented : (form : List ℕ → Line) (text : List ℕ) (line : Line) → comment_of form text ≡ Ok line → IsComment form text line
commented form text line e = by (is_comment_text text) refl e
  where
    by : (b : Bool) → is_comment_text text ≡ b → cond b (Ok (form text)) (Err kinds.Line) ≡ Ok line → IsComment form text line
    by true fit e = record { is = cc; fit = fit }
    by false unfit e = cc

-- a text behind one space, or one that begins with none
spaced_or_not : (P : List ℕ → List ℕ → Type 0) (bytes : List ℕ) → ((text : List ℕ) → skip_space bytes ≡ text → P (32 ∷ text) text) → ((text : List ℕ) → skip_space bytes ≡ text → begins_with 32 text ≡ false → P text text)
    → P bytes (skip_space bytes)
spaced_or_not P [] one none = none [] refl refl
spaced_or_not P (b ∷ bytes) one none = by (b == 32) refl one none
  where
    by : (s : Bool) → (b == 32) ≡ s → ((text : List ℕ) → cond s bytes (b ∷ bytes) ≡ text → P (32 ∷ text) text) → ((text : List ℕ) → cond s bytes (b ∷ bytes) ≡ text → begins_with 32 text ≡ false → P text text)
        → P (b ∷ bytes) (cond s bytes (b ∷ bytes))
    by true is one none = subst (λ c. P (c ∷ bytes) bytes) (sym (eqb-true b 32 is)) (one bytes refl)
    by false other one none = none (b ∷ bytes) refl other

comment_form : (form : List ℕ → Line) (b : ℕ) (bytes : List ℕ) (line : Line) → comment_of form (skip_space bytes) ≡ Ok line
    → ((text : List ℕ) → is_comment_text text ≡ true → IsForm (35 ∷ b ∷ 32 ∷ text) (form text))
    → ((text : List ℕ) → begins_with 32 text ≡ false → is_comment_text text ≡ true → IsForm (35 ∷ b ∷ text) (form text)) → IsForm (35 ∷ b ∷ bytes) line
comment_form form b bytes line e one none =
    let c = commented form (skip_space bytes) line e in
    subst (IsForm (35 ∷ b ∷ bytes)) (sym c.is)
    (spaced_or_not (λ all text. is_comment_text text ≡ true → IsForm (35 ∷ b ∷ all) (form text)) bytes (λ text is fit. one text fit) (λ text is other fit. none text other fit) c.fit)

flags_form : (bytes : List ℕ) (line : Line) → flags_of bytes ≡ Ok line → IsForm (35 ∷ 44 ∷ bytes) line
flags_form bytes line e = by (is_comment_text bytes && list_all (λ item. nat_lt 0 (length item)) (items_of bytes)) refl e
  where
    by : (b : Bool) → (is_comment_text bytes && list_all (λ item. nat_lt 0 (length item)) (items_of bytes)) ≡ b → cond b (Ok (flags (items_of bytes))) (Err kinds.Line) ≡ Ok line → IsForm (35 ∷ 44 ∷ bytes) line
    by true fit e =
        let parts = and_parts (is_comment_text bytes) (list_all (λ item. nat_lt 0 (length item)) (items_of bytes)) fit in
        let is : flags (items_of bytes) ≡ line = cc in
        subst (IsForm (35 ∷ 44 ∷ bytes)) is (flag_items bytes parts.0 parts.1)
    by false unfit e = cc

-- behind a space
space_first : (form : List ℕ → Result Line FaultKind) (bytes : List ℕ) (line : Line) (P : List ℕ → Type 0) → behind_space form bytes ≡ Ok line → ((rest : List ℕ) → form rest ≡ Ok line → P (32 ∷ rest)) → P bytes
space_first form [] line P e f = cc
space_first form (b ∷ bytes) line P e f = by (b == 32) refl e
  where
    by : (s : Bool) → (b == 32) ≡ s → cond s (form bytes) (Err kinds.Line) ≡ Ok line → P (b ∷ bytes)
    by true is e = subst (λ c. P (c ∷ bytes)) (sym (eqb-true b 32 is)) (f bytes e)
    by false other e = cc

obsolete_form : (bytes : List ℕ) (line : Line) → obsolete_at bytes ≡ Ok line → IsForm (35 ∷ 126 ∷ bytes) line
obsolete_form [] line e = cc
obsolete_form (b ∷ bytes) line e = by (b == 32) refl (b == 124) refl e
  where
    by : (s : Bool) → (b == 32) ≡ s → (p : Bool) → (b == 124) ≡ p → cond s (message_at true bytes) (cond p (behind_space (previous_at true) bytes) (Err kinds.Line)) ≡ Ok line → IsForm (35 ∷ 126 ∷ b ∷ bytes) line
    by true is p bar e =
        let found = ok_of (part_at bytes) (message true) line e in
        subst (λ c. IsForm (35 ∷ 126 ∷ c ∷ bytes) line) (sym (eqb-true b 32 is))
        (subst (IsForm (35 ∷ 126 ∷ 32 ∷ bytes)) (sym found.2) (obsolete_part bytes found.0 (part_spells bytes found.0 found.1)))
    by false other true bar e =
        subst (λ c. IsForm (35 ∷ 126 ∷ c ∷ bytes) line) (sym (eqb-true b 124 bar))
        (space_first (previous_at true) bytes line (λ all. IsForm (35 ∷ 126 ∷ 124 ∷ all) line) e
        (λ rest read. let it = previous_spells true rest line read in subst (IsForm (35 ∷ 126 ∷ 124 ∷ 32 ∷ rest)) (sym it.is) (obsolete_previous rest it.part it.other it.spells)))
    by false other false none e = cc

none_of : (a b c d e f g : Bool) → a ≡ false → b ≡ false → c ≡ false → d ≡ false → e ≡ false → f ≡ false → g ≡ false → (a || b || c || d || e || f || g) ≡ false
none_of a b c d e f g p q r s t u v = (λ i. p i || q i || r i || s i || t i || u i || v i)

comment_spells : (bytes : List ℕ) (line : Line) → comment_at bytes ≡ Ok line → IsForm (35 ∷ bytes) line
comment_spells [] line e = let is : translator [] ≡ line = cc in subst (IsForm (35 ∷ [])) is alone
comment_spells (b ∷ bytes) line e = by (b == 46) refl (b == 58) refl (b == 44) refl (b == 124) refl (b == 126) refl (b == 61) refl e
  where
    last : (b == 46) ≡ false → (b == 58) ≡ false → (b == 44) ≡ false → (b == 124) ≡ false → (b == 126) ≡ false → (b == 61) ≡ false → (s : Bool) → (b == 32) ≡ s
        → comment_of translator (cond s bytes (b ∷ bytes)) ≡ Ok line → IsForm (35 ∷ b ∷ bytes) line
    last dot colon comma bar tilde same true is e = let c = commented translator bytes line e in with_front b 32 bytes line is (subst (IsForm (35 ∷ 32 ∷ bytes)) (sym c.is) (spaced bytes c.fit))
    last dot colon comma bar tilde same false other e =
        let c = commented translator (b ∷ bytes) line e in
        subst (IsForm (35 ∷ b ∷ bytes)) (sym c.is) (unspaced b bytes (none_of (b == 32) (b == 46) (b == 58) (b == 44) (b == 124) (b == 126) (b == 61) other dot colon comma bar tilde same) c.fit)

    by : (dot : Bool) → (b == 46) ≡ dot → (colon : Bool) → (b == 58) ≡ colon → (comma : Bool) → (b == 44) ≡ comma → (bar : Bool) → (b == 124) ≡ bar → (tilde : Bool) → (b == 126) ≡ tilde → (same : Bool) → (b == 61) ≡ same
        → cond dot (comment_of extracted (skip_space bytes)) (cond colon (comment_of reference (skip_space bytes)) (cond comma (flags_of bytes) (cond bar (behind_space (previous_at false) bytes) (cond tilde (obsolete_at bytes) (cond same (Err kinds.Line) (comment_of translator (skip_space (b ∷ bytes))))))))
        ≡ Ok line → IsForm (35 ∷ b ∷ bytes) line
    by true is colon p comma q bar r tilde s same t e = with_front b 46 bytes line is (comment_form extracted 46 bytes line e extracted_spaced extracted_unspaced)
    by false p true is comma q bar r tilde s same t e = with_front b 58 bytes line is (comment_form reference 58 bytes line e reference_spaced reference_unspaced)
    by false p false q true is bar r tilde s same t e = with_front b 44 bytes line is (flags_form bytes line e)
    by false p false q false r true is tilde s same t e =
        with_front b 124 bytes line is (space_first (previous_at false) bytes line (λ all. IsForm (35 ∷ 124 ∷ all) line) e
        (λ rest read. let it = previous_spells false rest line read in subst (IsForm (35 ∷ 124 ∷ 32 ∷ rest)) (sym it.is) (previous_part rest it.part it.other it.spells)))
    by false p false q false r false s true is same t e = with_front b 126 bytes line is (obsolete_form bytes line e)
    by false p false q false r false s false t true is e = cc
    by false p false q false r false s false t false u e = last p q r s t u (b == 32) refl e

spells : (bytes : List ℕ) (line : Line) → line_of bytes ≡ Ok line → IsForm bytes line
unfolding line_of
spells [] line e = let is : blank ≡ line = cc in subst (IsForm []) is (white [] refl)
spells (b ∷ bytes) line e = by (is_all_white (b ∷ bytes)) refl (b == 35) refl e
  where
    by : (w : Bool) → is_all_white (b ∷ bytes) ≡ w → (h : Bool) → (b == 35) ≡ h → cond w (Ok blank) (cond h (comment_at bytes) (message_at false (b ∷ bytes))) ≡ Ok line → IsForm (b ∷ bytes) line
    by true all h hash e = let is : blank ≡ line = cc in subst (IsForm (b ∷ bytes)) is (white (b ∷ bytes) all)
    by false some true hash e = subst (λ c. IsForm (c ∷ bytes) line) (sym (eqb-true b 35 hash)) (comment_spells bytes line e)
    by false some false other e =
        let found = ok_of (part_at (b ∷ bytes)) (message false) line e in
        subst (IsForm (b ∷ bytes)) (sym found.2) (message_part (b ∷ bytes) found.0 (part_spells (b ∷ bytes) found.0 found.1))

-- ---- from the form to the line

all_false : (a b c d e f g : Bool) → (a || b || c || d || e || f || g) ≡ false
    → (a ≡ false) × (b ≡ false) × (c ≡ false) × (d ≡ false) × (e ≡ false) × (f ≡ false) × (g ≡ false)
all_false true b c d e f g h = cc
all_false false true c d e f g h = cc
all_false false false true d e f g h = cc
all_false false false false true e f g h = cc
all_false false false false false true f g h = cc
all_false false false false false false true g h = cc
all_false false false false false false false true h = cc
all_false false false false false false false false h = (refl, refl, refl, refl, refl, refl, refl)

no_space : (text : List ℕ) → begins_with 32 text ≡ false → skip_space text ≡ text
no_space [] e = refl
no_space (b ∷ text) e = ap (λ s. cond s text (b ∷ text)) e

abbrev told : (List ℕ → Line) → List ℕ → Bool → Result Line FaultKind
told form text fit = cond fit (Ok (form text)) (Err kinds.Line)

read : (bytes : List ℕ) (line : Line) → IsForm bytes line → line_of bytes ≡ Ok line
unfolding line_of
read _ _ (white bytes e) = ap (λ w. cond w (Ok blank) (cond (begins_with 35 bytes) (comment_at (drop 1 bytes)) (message_at false bytes))) e
read _ _ alone = refl
read _ _ (spaced text fit) = ap (told translator text) fit
read _ _ (unspaced b text other fit) =
    let no = all_false (b == 32) (b == 46) (b == 58) (b == 44) (b == 124) (b == 126) (b == 61) other in
    (λ i. cond (no.1 i) (comment_of extracted (skip_space text)) (cond (no.2 i) (comment_of reference (skip_space text)) (cond (no.3 i) (flags_of text) (cond (no.4 i) (behind_space (previous_at false) text)
    (cond (no.5 i) (obsolete_at text) (cond (no.6 i) (Err kinds.Line) (comment_of translator (cond (no.0 i) text (b ∷ text)))))))))
    ∙ ap (told translator (b ∷ text)) fit
read _ _ (extracted_spaced text fit) = ap (told extracted text) fit
read _ _ (extracted_unspaced text other fit) = ap (comment_of extracted) (no_space text other) ∙ ap (told extracted text) fit
read _ _ (reference_spaced text fit) = ap (told reference text) fit
read _ _ (reference_unspaced text other fit) = ap (comment_of reference) (no_space text other) ∙ ap (told reference text) fit
read _ _ (flag_items text fit all) = ap (λ b. cond b (Ok (flags (items_of text))) (Err kinds.Line)) (and_from (is_comment_text text) (list_all (λ item. nat_lt 0 (length item)) (items_of text)) fit all)
read _ _ (previous_part bytes part other h) = previous_read false bytes part other h
read _ _ (obsolete_part bytes part h) = ap (λ r. r >>= λ part. Ok (message true part)) (part_read bytes part h)
read _ _ (obsolete_previous bytes part other h) = previous_read true bytes part other h
read _ _ (message_part bytes part h) =
    let front = part_front bytes part h in
    (λ i. cond (front.0 i) (Ok blank) (cond (front.1 i) (comment_at (drop 1 bytes)) (message_at false bytes)))
    ∙ ap (λ r. r >>= λ part. Ok (message false part)) (part_read bytes part h)

pub returns : goal.returns
returns c = λ bytes line. (spells bytes line, read bytes line)
