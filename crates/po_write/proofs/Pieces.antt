-- How texts are cut by the loops that send them.
use Rattle.std.proofs.Common.{◌≡◌, ◌≢◌, ℕ, ◌+◌, ◌-◌, ◌<◌, ◌≤◌, ◌==◌, Bool, true, false, is_some, Option, Some, None, cond, List, [], ◌∷◌, ◌++◌, length, take, drop, get_or, refl, sym, ◌∙◌, ap, append_assoc, arith, take_all, zero, suc, nat_lt}
use Rattle.std.specs.Prelude.{codes, flat_map}
use Rattle.std.proofs.lemmas.Grind.{common_steps, flat_map-append}
use Rattle.std.specs.List.{prefix_len}
use Rattle.std.proofs.lemmas.List.{take-append-drop, length-drop, drop-drop}
use Rattle.std.proofs.lemmas.List.Sums.{prefix_len_passes}
use Rattle.std.proofs.lemmas.Bool.{eq-eqb, eqb-true, ne_eqb, lt-ltb, le-ltb}
use Rattle.std.proofs.Math.Seq.{drop-cons}
use Rattle.memchr.specs.Find.{IsFirstByte, is_byte}
use Rattle.byte_streams.proofs.Sent.{none_there, all_gone}
use Rattle.po_lex.specs.declared.line.Keyword.TheVariants.{Msgstr, MsgstrAt}
use Rattle.po_lex.specs.Escapes.{letter_of, escaped_byte, escaped, quoted, is_bare}
use Rattle.po_lex.proofs.EscapeLemmas.{bare_letter}
use Rattle.po_lex.specs.Lines.{with_byte}
use Rattle.po_text.specs.Entries.{Keyed, keyed_forms, numbered, previous_strings, entry_strings}
use Rattle.po_text.specs.declared.entry.Entry.{Entry}
use Rattle.po_write.specs.Text.{ended, spaced, comment, flags_line, further, pieces_of, piece_lines, string_pieces, string_lines, message_mark, previous_mark, entry_text}

-- ---- loops over items

pub next_left : {X : Type 0} (xs : List X) (i : ℕ) (x item : X) → i < length xs → item ≡ get_or xs i item → x ≡ item → drop i xs ≡ x ∷ drop (i + 1) xs
next_left xs i x item within is same =
    drop-cons xs i item within ∙ ap (λ y. y ∷ drop (suc i) xs) (sym is ∙ sym same) ∙ (let one : suc i ≡ i + 1 = omega arith in ap (λ k. x ∷ drop k xs) one)

-- the texts of the items that are left
pub next_item : {X : Type 0} (f : X → List ℕ) (xs : List X) (i : ℕ) (x item : X) → i < length xs → item ≡ get_or xs i item → x ≡ item
    → flat_map f (drop i xs) ≡ f x ++ flat_map f (drop (i + 1) xs)
next_item f xs i x item within is same = ap (flat_map f) (next_left xs i x item within is same)

pub none_left : {X : Type 0} (f : X → List ℕ) (xs : List X) (i : ℕ) → length xs ≤ i → flat_map f (drop i xs) ≡ []
none_left f xs i past = ap (flat_map f) (all_gone xs i past)

-- ---- comments and flags

pub some_left : {X : Type 0} (xs : List X) → false ≡ (length xs == 0) → 0 < length xs
some_left [] some = let differs : false ≡ true = some in cc
some_left (x ∷ xs) some = omega arith

pub spaced_some : (text : List ℕ) → false ≡ (length text == 0) → spaced text ≡ 32 ∷ text
spaced_some [] some = let differs : false ≡ true = some in cc
spaced_some (b ∷ text) some = refl

pub comment_cut : (mark text : List ℕ) → comment mark text ≡ mark ++ (spaced text ++ 10 ∷ [])
comment_cut mark text = append_assoc mark (spaced text) (10 ∷ [])

pub flags_cut : (flags : List (List ℕ)) (flag : List ℕ) (others : List (List ℕ)) → flags ≡ flag ∷ others
    → flags_line flags ≡ (35 ∷ 44 ∷ 32 ∷ []) ++ (flag ++ (flat_map further others ++ 10 ∷ []))
flags_cut flags flag others same = ap flags_line same ∙ ap (λ xs. 35 ∷ 44 ∷ 32 ∷ xs) (append_assoc flag (flat_map further others) (10 ∷ []))

pub flag_cut : (flags : List (List ℕ)) (i : ℕ) (flag item : List ℕ) → i < length flags → item ≡ get_or flags i item → flag ≡ item
    → flat_map further (drop i flags) ++ 10 ∷ [] ≡ further flag ++ (flat_map further (drop (i + 1) flags) ++ 10 ∷ [])
flag_cut flags i flag item within is same =
    ap (λ xs. xs ++ 10 ∷ []) (next_item further flags i flag item within is same)
    ∙ append_assoc (further flag) (flat_map further (drop (i + 1) flags)) (10 ∷ [])

-- ---- strings

unescaped_byte : (found : Option ℕ) (b : ℕ) → is_some found ≡ false → escaped_byte found b ≡ b ∷ []
unescaped_byte None b none = refl
unescaped_byte (Some letter) b none = let differs : true ≡ false = none in cc

pub bare_unescaped : (xs : List ℕ) (n : ℕ) → n ≡ prefix_len is_bare xs → (k : ℕ) → k < n → is_some (letter_of (get_or xs k 0)) ≡ false
bare_unescaped xs n is k below = ap is_some (bare_letter (get_or xs k 0) (prefix_len_passes is_bare xs k 0 (omega arith)))

-- bytes that stand as they are
plain_run : (xs : List ℕ) (n : ℕ) → ((k : ℕ) → k < n → is_some (letter_of (get_or xs k 0)) ≡ false) → escaped (take n xs) ≡ take n xs
plain_run xs zero plain = refl
plain_run [] (suc n) plain = refl
plain_run (x ∷ xs) (suc n) plain =
    ap (λ ys. ys ++ escaped (take n xs)) (unescaped_byte (letter_of x) x (plain 0 (omega arith)))
    ∙ ap (λ ys. x ∷ ys) (plain_run xs n (λ k below. plain (suc k) (omega arith)))

pub run_cut : (xs front back : List ℕ) (n : ℕ) → ((k : ℕ) → k < n → is_some (letter_of (get_or xs k 0)) ≡ false) → front ≡ take n xs → back ≡ drop n xs
    → escaped xs ≡ front ++ escaped back
run_cut xs front back n plain is_front is_back =
    ap escaped (sym (take-append-drop n xs))
    ∙ flat_map-append (λ c. escaped_byte (letter_of c) c) (take n xs) (drop n xs)
    ∙ ap (λ ys. ys ++ escaped (drop n xs)) (plain_run xs n plain)
    ∙ ap (λ ys. ys ++ escaped (drop n xs)) (sym is_front)
    ∙ ap (λ ys. front ++ escaped ys) (sym is_back)

pub no_run : (xs : List ℕ) → length xs ≡ 0 → escaped xs ≡ []
no_run [] none = refl
no_run (x ∷ xs) none = absurd (omega arith)

pub quoted_cut : (piece : List ℕ) → ended (quoted piece) ≡ (34 ∷ []) ++ (escaped piece ++ 34 ∷ 10 ∷ [])
quoted_cut piece = ap (λ xs. 34 ∷ xs) (append_assoc (escaped piece) (34 ∷ []) (10 ∷ []))

-- ---- pieces

at_lf : (b : ℕ) (text : List ℕ) → b ≡ 10 → pieces_of (b ∷ text) ≡ (b ∷ []) ∷ pieces_of text
at_lf b text lf = rw (eq-eqb b 10 lf) refl

at_other : (b : ℕ) (text : List ℕ) → b ≢ 10 → pieces_of (b ∷ text) ≡ with_byte b (pieces_of text)
at_other b text other = rw (ne_eqb b 10 other) refl

at_end : (b : ℕ) → pieces_of (b ∷ []) ≡ (b ∷ []) ∷ []
at_end b = let same : (v : Bool) → cond v ((b ∷ []) ∷ []) (with_byte b []) ≡ (b ∷ []) ∷ [] = elim [ true ↦ refl | false ↦ refl ] in same (b == 10)

-- the first piece has n bytes and then one more
piece_behind : (text : List ℕ) (n : ℕ) → ((k : ℕ) → k < n → get_or text k 0 ≢ 10) → (suc n < length text → get_or text n 0 ≡ 10) → suc n ≤ length text
    → pieces_of text ≡ take (suc n) text ∷ pieces_of (drop (suc n) text)
piece_behind [] n before last within = absurd (omega arith)
piece_behind (b ∷ []) zero before last within = at_end b
piece_behind (b ∷ c ∷ text) zero before last within = at_lf b (c ∷ text) (last (omega arith))
piece_behind (b ∷ text) (suc n) before last within =
    at_other b text (before 0 (omega arith))
    ∙ ap (with_byte b) (piece_behind text n (λ k below. before (suc k) (omega arith)) (λ more. last (omega arith)) (omega arith))

-- What the length of a first piece is: some bytes, the last of them an LF where bytes stand behind it, and no other.
pub record IsPieceLen (text : List ℕ) (n : ℕ) : Type 0 where
  pub some : 0 < length text → 0 < n
  pub before : (k : ℕ) → k + 1 < n → get_or text k 0 ≢ 10
  pub last : n < length text → get_or text (n - 1) 0 ≡ 10
  pub within : n ≤ length text

first_piece : (text : List ℕ) (n : ℕ) → IsPieceLen text n → 0 < length text → pieces_of text ≡ take n text ∷ pieces_of (drop n text)
first_piece text zero is some = absurd (omega (arith, is.some some))
first_piece text (suc n) is some =
    piece_behind text n (λ k below. is.before k (omega arith)) (λ more. ap (λ k. get_or text k 0) (omega arith) ∙ is.last more) is.within

pub piece_cut : (mark text front back : List ℕ) (n : ℕ) → IsPieceLen text n → 0 < length text → front ≡ take n text → back ≡ drop n text
    → piece_lines mark (pieces_of text) ≡ mark ++ (ended (quoted front) ++ piece_lines mark (pieces_of back))
piece_cut mark text front back n is some is_front is_back =
    ap (piece_lines mark) (first_piece text n is some)
    ∙ ap (λ xs. ended (mark ++ quoted xs) ++ piece_lines mark (pieces_of (drop n text))) (sym is_front)
    ∙ ap (λ xs. ended (mark ++ quoted front) ++ piece_lines mark (pieces_of xs)) (sym is_back)
    ∙ ap (λ xs. xs ++ piece_lines mark (pieces_of back)) (append_assoc mark (quoted front) (10 ∷ []))
    ∙ append_assoc mark (ended (quoted front)) (piece_lines mark (pieces_of back))

pub no_pieces : (mark text : List ℕ) → true ≡ (length text == 0) → piece_lines mark (pieces_of text) ≡ []
no_pieces mark text none = ap (λ xs. piece_lines mark (pieces_of xs)) (none_there text none)

some_at : (lf : Bool) (b : ℕ) (pieces : List (List ℕ)) → 0 < length (cond lf ((b ∷ []) ∷ pieces) (with_byte b pieces))
some_at true b pieces = omega arith
some_at false b [] = omega arith
some_at false b (piece ∷ pieces) = omega arith

some_pieces : (text : List ℕ) → 0 < length text → 0 < length (pieces_of text)
some_pieces [] some = some
some_pieces (b ∷ text) some = some_at (b == 10) b (pieces_of text)

-- a string of more than one piece
pub many_pieces : (mark text : List ℕ) (n : ℕ) → IsPieceLen text n → n < length text
    → string_pieces mark text ≡ ended (quoted []) ++ piece_lines mark (pieces_of text)
many_pieces mark text n is more =
    let count : length (pieces_of text) ≡ suc (length (pieces_of (drop n text))) = ap length (first_piece text n is (omega arith)) in
    let behind = some_pieces (drop n text) (omega (arith, length-drop n text)) in
    rw (lt-ltb 1 (length (pieces_of text)) (omega arith)) refl

-- a string of one piece or none
pub one_piece : (mark text : List ℕ) (n : ℕ) → IsPieceLen text n → length text ≤ n → string_pieces mark text ≡ ended (quoted text)
one_piece mark [] n is most = refl
one_piece mark (b ∷ text) n is most =
    let none : drop n (b ∷ text) ≡ [] = grind (arith, common_steps) in
    let count : length (pieces_of (b ∷ text)) ≡ 1 = ap length (first_piece (b ∷ text) n is (omega arith)) ∙ ap (λ xs. suc (length (pieces_of xs))) none in
    rw (le-ltb 1 (length (pieces_of (b ∷ text))) (omega arith)) refl

-- what stands behind the first quote of a string's pieces
pub one_behind_quote : (mark text : List ℕ) (n : ℕ) → IsPieceLen text n → length text ≤ n → drop 1 (string_pieces mark text) ≡ escaped text ++ 34 ∷ 10 ∷ []
one_behind_quote mark text n is most = ap (drop 1) (one_piece mark text n is most ∙ quoted_cut text)

pub many_behind_quote : (mark text : List ℕ) (n : ℕ) → IsPieceLen text n → n < length text → drop 1 (string_pieces mark text) ≡ (34 ∷ 10 ∷ []) ++ piece_lines mark (pieces_of text)
many_behind_quote mark text n is more = ap (drop 1) (many_pieces mark text n is more)

-- a string's pieces begin with a quote
first_quote : (many : Bool) (a b : List ℕ) → cond many (34 ∷ a) (34 ∷ b) ≡ 34 ∷ drop 1 (cond many (34 ∷ a) (34 ∷ b))
first_quote true a b = refl
first_quote false a b = refl

pub quote_in_front : (front mark text : List ℕ) → front ++ string_pieces mark text ≡ (front ++ 34 ∷ []) ++ drop 1 (string_pieces mark text)
quote_in_front front mark text =
    ap (λ t. front ++ t) (first_quote (nat_lt 1 (length (pieces_of text))) _ _)
    ∙ sym (append_assoc front (34 ∷ []) (drop 1 (string_pieces mark text)))

pub front_and_quote : (mark keyword : List ℕ) → (mark ++ (keyword ++ 32 ∷ [])) ++ 34 ∷ [] ≡ mark ++ (keyword ++ 32 ∷ 34 ∷ [])
front_and_quote mark keyword = append_assoc mark (keyword ++ 32 ∷ []) (34 ∷ []) ∙ ap (λ t. mark ++ t) (append_assoc keyword (32 ∷ []) (34 ∷ []))

-- ---- message lines

pub single_next : (mark : List ℕ) (forms : List (List ℕ)) (i : ℕ) (form : List ℕ) → i < length forms → form ≡ get_or forms i form
    → flat_map (string_lines mark) (keyed_forms None (drop i forms)) ≡ string_lines mark (Msgstr, form) ++ flat_map (string_lines mark) (keyed_forms None (drop (i + 1) forms))
single_next mark forms i form within is = ap (λ xs. flat_map (string_lines mark) (keyed_forms None xs)) (next_left forms i form form within is refl)

pub single_end : (mark : List ℕ) (forms : List (List ℕ)) (i : ℕ) → length forms ≤ i → flat_map (string_lines mark) (keyed_forms None (drop i forms)) ≡ []
single_end mark forms i past = ap (λ xs. flat_map (string_lines mark) (keyed_forms None xs)) (all_gone forms i past)

pub numbered_next : (mark : List ℕ) (forms : List (List ℕ)) (n i : ℕ) (form : List ℕ) → i < length forms → form ≡ get_or forms i form
    → flat_map (string_lines mark) (numbered n (drop i forms)) ≡ string_lines mark (MsgstrAt n, form) ++ flat_map (string_lines mark) (numbered (n + 1) (drop (i + 1) forms))
numbered_next mark forms n i form within is = ap (λ xs. flat_map (string_lines mark) (numbered n xs)) (next_left forms i form form within is refl)

pub numbered_end : (mark : List ℕ) (forms : List (List ℕ)) (n i : ℕ) → length forms ≤ i → flat_map (string_lines mark) (numbered n (drop i forms)) ≡ []
numbered_end mark forms n i past = ap (λ xs. flat_map (string_lines mark) (numbered n xs)) (all_gone forms i past)

-- the strings of a key that was, and of an entry, one after another
pub three_cut : (f : Keyed → List ℕ) (a b c : List Keyed) → flat_map f (a ++ (b ++ c)) ≡ flat_map f a ++ (flat_map f b ++ flat_map f c)
three_cut f a b c = flat_map-append f a (b ++ c) ∙ ap (λ xs. flat_map f a ++ xs) (flat_map-append f b c)

pub four_cut : (f : Keyed → List ℕ) (a : List Keyed) (b : Keyed) (c d : List Keyed)
    → flat_map f (a ++ (b ∷ (c ++ d))) ≡ flat_map f a ++ (f b ++ (flat_map f c ++ flat_map f d))
four_cut f a b c d = flat_map-append f a (b ∷ (c ++ d)) ∙ ap (λ xs. flat_map f a ++ (f b ++ xs)) (flat_map-append f c d)

-- ---- entries

-- what stands behind each part of an entry
abbrev pub after_previous : Entry → List ℕ
after_previous e = flat_map (string_lines (message_mark e.obsolete)) (entry_strings e)

abbrev pub after_flags : Entry → List ℕ
after_flags e = flat_map (string_lines (previous_mark e.obsolete)) (previous_strings e.previous) ++ after_previous e

abbrev pub after_references : Entry → List ℕ
after_references e = flags_line e.flags ++ after_flags e

abbrev pub after_extracted : Entry → List ℕ
after_extracted e = flat_map (comment (codes "#:")) e.references ++ after_references e

abbrev pub after_translator : Entry → List ℕ
after_translator e = flat_map (comment (codes "#.")) e.extracted ++ after_extracted e

pub entry_cut : (e : Entry) → entry_text e ≡ flat_map (comment (codes "#")) e.translator ++ after_translator e
unfolding entry_text
entry_cut e = refl

-- ---- the first LF

pub lf_place : (text : List ℕ) (k : ℕ) → IsFirstByte (is_byte 10) text (Some k) → IsPieceLen text (k + 1)
lf_place text k h = record {
  some = λ _. omega arith;
  before = λ j below e. h.0.before j (omega arith) (omega arith) (eq-eqb (get_or text j 0) 10 e);
  last = λ _. ap (λ j. get_or text j 0) (omega arith) ∙ eqb-true (get_or text k 0) 10 h.1;
  within = let below : k < length text = h.0.high in omega arith;
}

pub lf_nowhere : (text : List ℕ) → IsFirstByte (is_byte 10) text None → IsPieceLen text (length text)
lf_nowhere text h = record {
  some = λ some. some;
  before = λ j below e. h j (omega arith) (omega arith) (eq-eqb (get_or text j 0) 10 e);
  last = λ more. absurd (omega arith);
  within = omega arith;
}
