-- The lines of an entry's canonical text spell the entry.
use Rattle.std.proofs.Common.{◌≡◌, ◌≢◌, ℕ, ◌+◌, ◌≤◌, ◌<◌, List, [], ◌∷◌, ◌++◌, Bool, true, false, not, ◌&&◌, ◌||◌, ◌==◌, cond, map, length, drop, refl, sym, ◌∙◌, ap, append_assoc, subst, Option, Some, None, nat_lt, arith}
use Rattle.std.specs.Prelude.{codes, flat_map, filter}
use Rattle.std.specs.List.{fold, filter_map, cons_option, list_all, AllByRecursion}
use Rattle.std.specs.Str.{bytes_eq}
use Rattle.std.proofs.lemmas.Str.{IsUtf8-nil, IsUtf8-append}
use Rattle.std.proofs.lemmas.List.{append-nil, map-append}
use Rattle.std.proofs.lemmas.List.Elements.{filter_map-append}
use Rattle.std.proofs.lemmas.List.Folds.{list_all-append}
use Rattle.std.proofs.lemmas.List.Sums.{fold-append}
use Rattle.std.proofs.lemmas.Grind.{flat_map-append}
use Rattle.std.proofs.lemmas.Slice.Eq.{bytes_eq-Decides}
use Rattle.std.proofs.lemmas.Bool.Decides.{nat_tests}
use Rattle.po_lex.specs.declared.line.Keyword.{Keyword}
use Rattle.po_lex.specs.declared.line.Keyword.TheVariants.{Msgctxt, Msgid, MsgidPlural, Msgstr}
use Rattle.po_lex.specs.Escapes.{quoted}
use Rattle.po_lex.specs.Lines.{Part, begins, continues, Line, translator, extracted, reference, flags, previous, message, keyword_text, with_byte, begins_form}
use Rattle.po_text.specs.Entries.{Keyed, optional, numbered, keyed_forms, entry_strings, previous_strings}
use Rattle.po_text.specs.Strings.{is_string_byte}
use Rattle.po_text.specs.Texts.{Text}
use Rattle.po_text.specs.declared.entry.Entry.{Entry}
use Rattle.po_text.specs.Valid.{IsString, IsCommentLine, AreFlags, AreDistinct, AllStrings, IsValidEntry, fuzzy}
use Rattle.po_read.specs.Spells.{go_on, add_part, BeginsFirst, SpellsStrings, translator_text, extracted_text, reference_text, flag_items, previous_part, IsCommentOf, flags_kept, SpellsEntry}
use Rattle.po_text.specs.Flags.{has_text, add_once, with_fuzzy_first}
use Rattle.po_read.proofs.Leaves.{utf8_front, utf8_back, utf8_ascii}
use Rattle.po_read.proofs.Sound.{IsDigitKey}
use Rattle.po_text.proofs.EntryLists.{all_both}
use Rattle.po_write.specs.Text.{ended, spaced, pieces_of, piece_lines, front_of, string_lines, message_mark, previous_mark, entry_text}
use Rattle.po_write.proofs.Written.{Written, IsLine, none_written, both_written, line_written, each_written}
use Rattle.po_write.proofs.LinesAgain.{keyword_body, piece_body, message_line, previous_line, translator_line, extracted_line, reference_line, flag_lines, flags_written}

same_written : {a b : List ℕ} {xs ys : List Line} → a ≡ b → xs ≡ ys → Written a xs → Written b ys
same_written {a} {b} {xs} {ys} e f w = subst (λ t. Written t ys) e (subst (λ ls. Written a ls) f w)

apart : (a b : Bool) → (a && b) ≡ true → (a ≡ true) × (b ≡ true)
apart true b h = (refl, h)
apart false b h = cc

-- ---- the pieces of a string

string_cut : (front : Text) (b : ℕ) (text : Text) → IsString (front ++ b ∷ text) → b < 128 → IsString (front ++ b ∷ []) × IsString text
string_cut front b text h low =
    let all = apart (list_all is_string_byte front) (list_all is_string_byte (b ∷ text)) (sym (list_all-append is_string_byte front (b ∷ text)) ∙ h.1) in
    let two = apart (is_string_byte b) (list_all is_string_byte text) all.1 in (
      (IsUtf8-append front (b ∷ []) (utf8_front front text b h.0 low) (utf8_ascii b [] low IsUtf8-nil), list_all-append is_string_byte front (b ∷ []) ∙ both (list_all is_string_byte front) (list_all is_string_byte (b ∷ [])) all.0 (both (is_string_byte b) true two.0 refl)),
      (utf8_back front text b h.0 low, two.1),
    )
  where
    both : (a b : Bool) → a ≡ true → b ≡ true → (a && b) ≡ true
    both true b h k = k
    both false b h k = cc

abbrev onto : Text → List Text → List Text
onto front [] = front ∷ []
onto front (piece ∷ pieces) = (front ++ piece) ∷ pieces

no_front : (pieces : List Text) → AllByRecursion IsString (onto [] pieces) → AllByRecursion IsString pieces
no_front [] h = tt
no_front (piece ∷ pieces) h = h

onto_byte : (front : Text) (b : ℕ) (pieces : List Text) → AllByRecursion IsString (onto (front ++ b ∷ []) pieces) → AllByRecursion IsString (onto front (with_byte b pieces))
onto_byte front b [] h = h
onto_byte front b (piece ∷ pieces) h = (subst IsString (append_assoc front (b ∷ []) piece) h.0, h.1)

pieces_onto : (text front : Text) → IsString (front ++ text) → AllByRecursion IsString (onto front (pieces_of text))
pieces_onto [] front h = (subst IsString (append-nil front) h, tt)
pieces_onto (b ∷ text) front h = by (b == 10) refl (pieces_onto text)
  where
    by : (lf : Bool) → (b == 10) ≡ lf → ((f : Text) → IsString (f ++ text) → AllByRecursion IsString (onto f (pieces_of text))) → AllByRecursion IsString (onto front (cond lf ((b ∷ []) ∷ pieces_of text) (with_byte b (pieces_of text))))
    by true e rest =
        let low : b < 128 = grind (arith, nat_tests) in
        let two = string_cut front b text h low in
        (two.0, no_front (pieces_of text) (rest [] two.1))
    by false e rest = onto_byte front b (pieces_of text) (rest (front ++ b ∷ []) (subst IsString (sym (append_assoc front (b ∷ []) text)) h))

pieces_strings : (text : Text) → IsString text → AllByRecursion IsString (pieces_of text)
pieces_strings text h = no_front (pieces_of text) (pieces_onto text [] h)

-- the pieces, one behind another, are the string
pieces_joined : (text : Text) → flat_map (λ piece. piece) (pieces_of text) ≡ text
pieces_joined [] = refl
pieces_joined (b ∷ text) = by (b == 10) (pieces_joined text)
  where
    pushed : (pieces : List Text) → flat_map (λ piece. piece) (with_byte b pieces) ≡ b ∷ flat_map (λ piece. piece) pieces
    pushed [] = refl
    pushed (piece ∷ pieces) = refl

    by : (lf : Bool) → flat_map (λ piece. piece) (pieces_of text) ≡ text → flat_map (λ piece. piece) (cond lf ((b ∷ []) ∷ pieces_of text) (with_byte b (pieces_of text))) ≡ b ∷ text
    by true e = ap (λ t. b ∷ t) e
    by false e = pushed (pieces_of text) ∙ ap (λ t. b ∷ t) e

-- ---- the parts of strings

abbrev parts_by : Bool → Keyed → List Part
parts_by true string = begins string.0 [] ∷ map continues (pieces_of string.1)
parts_by false string = begins string.0 string.1 ∷ []

-- the parts that a string is written in
abbrev pub string_parts : Keyed → List Part
string_parts string = parts_by (nat_lt 1 (length (pieces_of string.1))) string

abbrev pub parts_of : List Keyed → List Part
parts_of strings = flat_map string_parts strings

-- a keyword and a piece, or a piece alone, behind the mark is one line
abbrev Begins : List ℕ → (Part → Line) → Keyword → Type 0
Begins mark form keyword = (text : Text) → IsString text → IsLine (front_of mark keyword ++ quoted text) (form (begins keyword text))

abbrev GoesOn : List ℕ → (Part → Line) → Type 0
GoesOn mark form = (text : Text) → IsString text → IsLine (mark ++ quoted text) (form (continues text))

twice : (form : Part → Line) (pieces : List Text) → map (λ piece. form (continues piece)) pieces ≡ map form (map continues pieces)
twice form [] = refl
twice form (piece ∷ pieces) = ap (λ ls. form (continues piece) ∷ ls) (twice form pieces)

written_by : (many : Bool) (mark : List ℕ) (form : Part → Line) (string : Keyed) → Begins mark form string.0 → GoesOn mark form → IsString string.1
    → Written (front_of mark string.0 ++ cond many (ended (quoted []) ++ piece_lines mark (pieces_of string.1)) (ended (quoted string.1))) (map form (parts_by many string))
written_by false mark form string first more h =
    same_written (append_assoc (front_of mark string.0) (quoted string.1) (10 ∷ [])) refl
    (line_written (front_of mark string.0 ++ quoted string.1) (form (begins string.0 string.1)) (first string.1 h))
written_by true mark form string first more h =
    let front = front_of mark string.0 in
    let pieces = pieces_of string.1 in
    same_written
    (append_assoc (front ++ quoted []) (10 ∷ []) (piece_lines mark pieces) ∙ append_assoc front (quoted []) (10 ∷ piece_lines mark pieces))
    (ap (λ ls. form (begins string.0 []) ∷ ls) (twice form pieces))
    (both_written (ended (front ++ quoted [])) (piece_lines mark pieces) (form (begins string.0 []) ∷ []) (map (λ piece. form (continues piece)) pieces)
    (line_written (front ++ quoted []) (form (begins string.0 [])) (first [] (IsUtf8-nil, refl)))
    (each_written IsString (λ piece. mark ++ quoted piece) (λ piece. form (continues piece)) more pieces (pieces_strings string.1 h)))

strings_written : (mark : List ℕ) (form : Part → Line) (strings : List Keyed) → GoesOn mark form → AllByRecursion (λ string. Begins mark form string.0) strings → AllStrings IsString strings
    → Written (flat_map (string_lines mark) strings) (map form (parts_of strings))
unfolding string_lines
strings_written mark form [] more first h = none_written
strings_written mark form (string ∷ strings) more first h =
    same_written refl (sym (map-append form (string_parts string) (parts_of strings)))
    (both_written (string_lines mark string) (flat_map (string_lines mark) strings) (map form (string_parts string)) (map form (parts_of strings))
    (written_by (nat_lt 1 (length (pieces_of string.1))) mark form string first.0 more h.0) (strings_written mark form strings more first.1 h.1))

-- ---- the strings of parts

goes_on_last : (strings : List Keyed) (keyword : Keyword) (text more : Text) → go_on (strings ++ (keyword, text) ∷ []) more ≡ strings ++ (keyword, text ++ more) ∷ []
goes_on_last [] keyword text more = refl
goes_on_last (s ∷ []) keyword text more = refl
goes_on_last (s ∷ t ∷ strings) keyword text more = ap (λ ss. s ∷ ss) (goes_on_last (t ∷ strings) keyword text more)

continued : (strings : List Keyed) (keyword : Keyword) (text : Text) (pieces : List Text) → fold add_part (strings ++ (keyword, text) ∷ []) (map continues pieces) ≡ strings ++ (keyword, text ++ flat_map (λ piece. piece) pieces) ∷ []
continued strings keyword text [] = ap (λ t. strings ++ (keyword, t) ∷ []) (sym (append-nil text))
continued strings keyword text (piece ∷ pieces) =
    ap (λ ss. fold add_part ss (map continues pieces)) (goes_on_last strings keyword text piece) ∙ continued strings keyword (text ++ piece) pieces
    ∙ ap (λ t. strings ++ (keyword, t) ∷ []) (append_assoc text piece (flat_map (λ piece. piece) pieces))

one_string : (many : Bool) (strings : List Keyed) (string : Keyed) → fold add_part strings (parts_by many string) ≡ strings ++ string ∷ []
one_string false strings string = refl
one_string true strings string = continued strings string.0 [] (pieces_of string.1) ∙ ap (λ t. strings ++ (string.0, t) ∷ []) (pieces_joined string.1)

strings_behind : (before strings : List Keyed) → fold add_part before (parts_of strings) ≡ before ++ strings
strings_behind before [] = sym (append-nil before)
strings_behind before (string ∷ strings) =
    fold-append add_part before (string_parts string) (parts_of strings)
    ∙ ap (λ ss. fold add_part ss (parts_of strings)) (one_string (nat_lt 1 (length (pieces_of string.1))) before string)
    ∙ strings_behind (before ++ string ∷ []) strings ∙ append_assoc before (string ∷ []) strings

begins_first : (strings : List Keyed) → BeginsFirst (parts_of strings)
begins_first [] = tt
begins_first (string ∷ strings) = by (nat_lt 1 (length (pieces_of string.1)))
  where
    by : (many : Bool) → BeginsFirst (parts_by many string ++ parts_of strings)
    by true = tt
    by false = tt

strings_spelled : (strings : List Keyed) → SpellsStrings (parts_of strings) strings
strings_spelled strings = (begins_first strings, strings_behind [] strings)

-- ---- message lines

numbered_digits : (n : ℕ) (forms : List Text) → n + length forms ≤ 8 → AllByRecursion (λ (string : Keyed). IsDigitKey string.0) (numbered n forms)
numbered_digits n [] most = tt
numbered_digits n (form ∷ forms) most = (omega arith, numbered_digits (n + 1) forms (omega arith))

plain_digits : (forms : List Text) → AllByRecursion (λ (string : Keyed). IsDigitKey string.0) (map (λ form. (Msgstr, form)) forms)
plain_digits [] = tt
plain_digits (form ∷ forms) = (tt, plain_digits forms)

entry_digits : (ctx plural : Option Text) (id : Text) (forms : List Text) → length forms ≤ 8
    → AllByRecursion (λ (string : Keyed). IsDigitKey string.0) (optional Msgctxt ctx ++ ((Msgid, id) ∷ (optional MsgidPlural plural ++ keyed_forms plural forms)))
entry_digits None None id forms most = (tt, plain_digits forms)
entry_digits None (Some plural) id forms most = (tt, (tt, numbered_digits 0 forms (omega arith)))
entry_digits (Some ctx) None id forms most = (tt, (tt, plain_digits forms))
entry_digits (Some ctx) (Some plural) id forms most = (tt, (tt, (tt, numbered_digits 0 forms (omega arith))))

message_begins : (obsolete : Bool) (keyword : Keyword) → IsDigitKey keyword → Begins (message_mark obsolete) (message obsolete) keyword
message_begins obsolete keyword d = λ text h.
    let bytes = keyword_text keyword ++ codes " " in
    subst (λ b. IsLine b (message obsolete (begins keyword text))) (sym (append_assoc (message_mark obsolete) bytes (quoted text)))
    (message_line obsolete (bytes ++ quoted text) (begins keyword text) (keyword_body keyword text d h))

messages_begin : (obsolete : Bool) (strings : List Keyed) → AllByRecursion (λ (string : Keyed). IsDigitKey string.0) strings → AllByRecursion (λ string. Begins (message_mark obsolete) (message obsolete) string.0) strings
messages_begin obsolete [] d = tt
messages_begin obsolete (string ∷ strings) d = (message_begins obsolete string.0 d.0, messages_begin obsolete strings d.1)

-- ---- previous strings

previous_begins : (obsolete : Bool) (keyword : Keyword) → IsDigitKey keyword → ((text : Text) → begins_form ((keyword_text keyword ++ codes " ") ++ quoted text) ≡ false) → Begins (previous_mark obsolete) (previous obsolete) keyword
previous_begins obsolete keyword d none = λ text h.
    let bytes = keyword_text keyword ++ codes " " in
    subst (λ b. IsLine b (previous obsolete (begins keyword text))) (sym (append_assoc (previous_mark obsolete) bytes (quoted text)))
    (previous_line obsolete (bytes ++ quoted text) (begins keyword text) (keyword_body keyword text d h) (none text))

abbrev PreviousBegins : Bool → Keyed → Type 0
PreviousBegins obsolete string = Begins (previous_mark obsolete) (previous obsolete) string.0

previous_first : (obsolete : Bool) (ctx id plural : Option Text) → AllByRecursion (PreviousBegins obsolete) (optional Msgctxt ctx ++ (optional Msgid id ++ optional MsgidPlural plural))
previous_first o ctx id plural =
    all_both (PreviousBegins o) (optional Msgctxt ctx) (optional Msgid id ++ optional MsgidPlural plural) (ctx_first ctx)
    (all_both (PreviousBegins o) (optional Msgid id) (optional MsgidPlural plural) (id_first id) (plural_first plural))
  where
    ctx_first : (ctx : Option Text) → AllByRecursion (PreviousBegins o) (optional Msgctxt ctx)
    ctx_first None = tt
    ctx_first (Some text) = (previous_begins o Msgctxt tt (λ text. refl), tt)

    id_first : (id : Option Text) → AllByRecursion (PreviousBegins o) (optional Msgid id)
    id_first None = tt
    id_first (Some text) = (previous_begins o Msgid tt (λ text. refl), tt)

    plural_first : (plural : Option Text) → AllByRecursion (PreviousBegins o) (optional MsgidPlural plural)
    plural_first None = tt
    plural_first (Some text) = (previous_begins o MsgidPlural tt (λ text. refl), tt)

-- ---- flags

other_text : (a b : Text) → b ≢ a → bytes_eq a b ≡ false
other_text a b differs = by (bytes_eq a b) refl
  where
    by : (t : Bool) → bytes_eq a b ≡ t → bytes_eq a b ≡ false
    by true e = absurd (differs (sym ((bytes_eq-Decides a b).0 e)))
    by false e = e

-- each of these is in the texts before it no more
abbrev AreNew : List Text → List Text → Type 0
AreNew before texts = AllByRecursion (λ text. has_text text before ≡ false) texts

new_behind : (before : List Text) (text : Text) (others : List Text) → AreNew before others → AllByRecursion (λ other. other ≢ text) others → AreNew (before ++ text ∷ []) others
new_behind before text [] n d = tt
new_behind before text (other ∷ others) n d = (pushed before n.0, new_behind before text others n.1 d.1)
  where
    pushed : (before : List Text) → has_text other before ≡ false → has_text other (before ++ text ∷ []) ≡ false
    pushed [] h = ap (λ t. t || false) (other_text other text (λ e. d.0 (sym e)))
    pushed (b ∷ before) h = by (bytes_eq other b) h (pushed before)
      where
        by : (t : Bool) → (t || has_text other before) ≡ false → (has_text other before ≡ false → has_text other (before ++ text ∷ []) ≡ false) → (t || has_text other (before ++ text ∷ [])) ≡ false
        by true h more = h
        by false h more = more h

each_once : (before texts : List Text) → AreNew before texts → AreDistinct texts → fold add_once before texts ≡ before ++ texts
each_once before [] n d = sym (append-nil before)
each_once before (text ∷ texts) n d =
    ap (λ found. fold add_once (cond found before (before ++ text ∷ [])) texts) n.0
    ∙ each_once (before ++ text ∷ []) texts (new_behind before text texts n.1 d.0) d.1 ∙ append_assoc before (text ∷ []) texts

all_new : (texts : List Text) → AreNew [] texts
all_new [] = tt
all_new (text ∷ texts) = (refl, all_new texts)

no_fuzzy : (texts : List Text) → AllByRecursion (λ flag. flag ≢ fuzzy) texts → (has_text fuzzy texts ≡ false) × (filter (λ text. not (bytes_eq fuzzy text)) texts ≡ texts)
no_fuzzy [] h = (refl, refl)
no_fuzzy (text ∷ texts) h =
    let rest = no_fuzzy texts h.1 in
    let other = other_text fuzzy text h.0 in
    (ap (λ t. t || has_text fuzzy texts) other ∙ rest.0, ap (λ t. cond (not t) (text ∷ filter (λ text. not (bytes_eq fuzzy text)) texts) (filter (λ text. not (bytes_eq fuzzy text)) texts)) other ∙ ap (λ ts. text ∷ ts) rest.1)

fuzzy_stays : (texts : List Text) → AllByRecursion (λ flag. flag ≢ fuzzy) (drop 1 texts) → with_fuzzy_first texts ≡ texts
fuzzy_stays [] h = refl
fuzzy_stays (text ∷ texts) h = by (bytes_eq fuzzy text) refl (no_fuzzy texts h)
  where
    by : (t : Bool) → bytes_eq fuzzy text ≡ t → (has_text fuzzy texts ≡ false) × (filter (λ text. not (bytes_eq fuzzy text)) texts ≡ texts)
        → cond (t || has_text fuzzy texts) (fuzzy ∷ cond (not t) (text ∷ filter (λ text. not (bytes_eq fuzzy text)) texts) (filter (λ text. not (bytes_eq fuzzy text)) texts)) (text ∷ texts) ≡ text ∷ texts
    by true e rest = ap (λ ts. fuzzy ∷ ts) rest.1 ∙ ap (λ t. t ∷ texts) ((bytes_eq-Decides fuzzy text).0 e)
    by false e rest = ap (λ t. cond t (fuzzy ∷ text ∷ filter (λ text. not (bytes_eq fuzzy text)) texts) (text ∷ texts)) rest.0

flags_stay : (texts : List Text) → AreFlags texts → flags_kept texts ≡ texts
flags_stay texts h = ap with_fuzzy_first (each_once [] texts (all_new texts) h.distinct) ∙ fuzzy_stays texts h.fuzzy_first

-- ---- comment lines

none_taken : {X A : Type 0} (f : Line → Option A) (form : X → Line) (xs : List X) → ((x : X) → f (form x) ≡ None) → filter_map f (map form xs) ≡ []
none_taken f form [] none = refl
none_taken f form (x ∷ xs) none = ap (λ o. cons_option o (filter_map f (map form xs))) (none x) ∙ none_taken f form xs none

all_taken : {X : Type 0} (f : Line → Option X) (form : X → Line) (xs : List X) → ((x : X) → f (form x) ≡ Some x) → filter_map f (map form xs) ≡ xs
all_taken f form [] some = refl
all_taken f form (x ∷ xs) some = ap (λ o. cons_option o (filter_map f (map form xs))) (some x) ∙ ap (λ ys. x ∷ ys) (all_taken f form xs some)

no_items : {X : Type 0} (form : X → Line) (xs : List X) → ((x : X) → flag_items (form x) ≡ []) → flat_map flag_items (map form xs) ≡ []
no_items form [] none = refl
no_items form (x ∷ xs) none = ap (λ items. items ++ flat_map flag_items (map form xs)) (none x) ∙ no_items form xs none

-- five lists, one behind another
five_taken : {A : Type 0} (f : Line → Option A) (a b c d e : List Line) → filter_map f (a ++ (b ++ (c ++ (d ++ e)))) ≡ filter_map f a ++ (filter_map f b ++ (filter_map f c ++ (filter_map f d ++ filter_map f e)))
five_taken f a b c d e =
    filter_map-append f a (b ++ (c ++ (d ++ e))) ∙ ap (λ xs. filter_map f a ++ xs)
    (filter_map-append f b (c ++ (d ++ e)) ∙ ap (λ xs. filter_map f b ++ xs) (filter_map-append f c (d ++ e) ∙ ap (λ xs. filter_map f c ++ xs) (filter_map-append f d e)))

five_items : (a b c d e : List Line) → flat_map flag_items (a ++ (b ++ (c ++ (d ++ e)))) ≡ flat_map flag_items a ++ (flat_map flag_items b ++ (flat_map flag_items c ++ (flat_map flag_items d ++ flat_map flag_items e)))
five_items a b c d e =
    flat_map-append flag_items a (b ++ (c ++ (d ++ e))) ∙ ap (λ xs. flat_map flag_items a ++ xs)
    (flat_map-append flag_items b (c ++ (d ++ e)) ∙ ap (λ xs. flat_map flag_items b ++ xs) (flat_map-append flag_items c (d ++ e) ∙ ap (λ xs. flat_map flag_items c ++ xs) (flat_map-append flag_items d e)))

abbrev comment_lines : Entry → List Line
comment_lines e = map translator e.translator ++ (map extracted e.extracted ++ (map reference e.references ++ (flag_lines e.flags ++ map (previous e.obsolete) (parts_of (previous_strings e.previous)))))

flags_taken : {A : Type 0} (f : Line → Option A) (texts : List Text) → ((items : List Text) → f (flags items) ≡ None) → filter_map f (flag_lines texts) ≡ []
flags_taken f [] none = refl
flags_taken f (text ∷ texts) none = ap (λ o. cons_option o []) (none (text ∷ texts))

flags_items : (texts : List Text) → flat_map flag_items (flag_lines texts) ≡ texts
flags_items [] = refl
flags_items (text ∷ texts) = append-nil (text ∷ texts)

-- the parts of previous strings in the comment lines
translators : (e : Entry) → filter_map translator_text (comment_lines e) ≡ e.translator
translators e =
    five_taken translator_text (map translator e.translator) (map extracted e.extracted) (map reference e.references) (flag_lines e.flags) (map (previous e.obsolete) (parts_of (previous_strings e.previous)))
    ∙ joined (all_taken translator_text translator e.translator (λ x. refl)) (none_taken translator_text extracted e.extracted (λ x. refl)) (none_taken translator_text reference e.references (λ x. refl))
    (flags_taken translator_text e.flags (λ x. refl)) (none_taken translator_text (previous e.obsolete) (parts_of (previous_strings e.previous)) (λ x. refl))
  where
    joined : {a b c d f : List Text} → a ≡ e.translator → b ≡ [] → c ≡ [] → d ≡ [] → f ≡ [] → a ++ (b ++ (c ++ (d ++ f))) ≡ e.translator
    joined h1 h2 h3 h4 h5 = rw (h1, h2, h3, h4, h5) (append-nil e.translator)

extracteds : (e : Entry) → filter_map extracted_text (comment_lines e) ≡ e.extracted
extracteds e =
    five_taken extracted_text (map translator e.translator) (map extracted e.extracted) (map reference e.references) (flag_lines e.flags) (map (previous e.obsolete) (parts_of (previous_strings e.previous)))
    ∙ joined (none_taken extracted_text translator e.translator (λ x. refl)) (all_taken extracted_text extracted e.extracted (λ x. refl)) (none_taken extracted_text reference e.references (λ x. refl))
    (flags_taken extracted_text e.flags (λ x. refl)) (none_taken extracted_text (previous e.obsolete) (parts_of (previous_strings e.previous)) (λ x. refl))
  where
    joined : {a b c d f : List Text} → a ≡ [] → b ≡ e.extracted → c ≡ [] → d ≡ [] → f ≡ [] → a ++ (b ++ (c ++ (d ++ f))) ≡ e.extracted
    joined h1 h2 h3 h4 h5 = rw (h1, h2, h3, h4, h5) (append-nil e.extracted)

references : (e : Entry) → filter_map reference_text (comment_lines e) ≡ e.references
references e =
    five_taken reference_text (map translator e.translator) (map extracted e.extracted) (map reference e.references) (flag_lines e.flags) (map (previous e.obsolete) (parts_of (previous_strings e.previous)))
    ∙ joined (none_taken reference_text translator e.translator (λ x. refl)) (none_taken reference_text extracted e.extracted (λ x. refl)) (all_taken reference_text reference e.references (λ x. refl))
    (flags_taken reference_text e.flags (λ x. refl)) (none_taken reference_text (previous e.obsolete) (parts_of (previous_strings e.previous)) (λ x. refl))
  where
    joined : {a b c d f : List Text} → a ≡ [] → b ≡ [] → c ≡ e.references → d ≡ [] → f ≡ [] → a ++ (b ++ (c ++ (d ++ f))) ≡ e.references
    joined h1 h2 h3 h4 h5 = rw (h1, h2, h3, h4, h5) (append-nil e.references)

previous_parts : (e : Entry) → filter_map previous_part (comment_lines e) ≡ parts_of (previous_strings e.previous)
previous_parts e =
    five_taken previous_part (map translator e.translator) (map extracted e.extracted) (map reference e.references) (flag_lines e.flags) (map (previous e.obsolete) (parts_of (previous_strings e.previous)))
    ∙ joined (none_taken previous_part translator e.translator (λ x. refl)) (none_taken previous_part extracted e.extracted (λ x. refl)) (none_taken previous_part reference e.references (λ x. refl))
    (flags_taken previous_part e.flags (λ x. refl)) (all_taken previous_part (previous e.obsolete) (parts_of (previous_strings e.previous)) (λ x. refl))
  where
    joined : {a b c d f : List Part} → a ≡ [] → b ≡ [] → c ≡ [] → d ≡ [] → f ≡ parts_of (previous_strings e.previous) → a ++ (b ++ (c ++ (d ++ f))) ≡ parts_of (previous_strings e.previous)
    joined h1 h2 h3 h4 h5 = rw (h1, h2, h3, h4) h5

all_flags : (e : Entry) → flat_map flag_items (comment_lines e) ≡ e.flags
all_flags e =
    five_items (map translator e.translator) (map extracted e.extracted) (map reference e.references) (flag_lines e.flags) (map (previous e.obsolete) (parts_of (previous_strings e.previous)))
    ∙ joined (no_items translator e.translator (λ x. refl)) (no_items extracted e.extracted (λ x. refl)) (no_items reference e.references (λ x. refl))
    (flags_items e.flags) (no_items (previous e.obsolete) (parts_of (previous_strings e.previous)) (λ x. refl))
  where
    joined : {a b c d f : List Text} → a ≡ [] → b ≡ [] → c ≡ [] → d ≡ e.flags → f ≡ [] → a ++ (b ++ (c ++ (d ++ f))) ≡ e.flags
    joined h1 h2 h3 h4 h5 = rw (h1, h2, h3, h4, h5) (append-nil e.flags)

each_is : {X : Type 0} (obsolete : Bool) (form : X → Line) (xs : List X) → ((x : X) → IsCommentOf obsolete (form x)) → AllByRecursion (IsCommentOf obsolete) (map form xs)
each_is obsolete form [] is = tt
each_is obsolete form (x ∷ xs) is = (is x, each_is obsolete form xs is)

flags_are : (obsolete : Bool) (texts : List Text) → AllByRecursion (IsCommentOf obsolete) (flag_lines texts)
flags_are obsolete [] = tt
flags_are obsolete (text ∷ texts) = (tt, tt)

pub comments_are : (e : Entry) → AllByRecursion (IsCommentOf e.obsolete) (comment_lines e)
comments_are e =
    let P : Line → Type 0 = IsCommentOf e.obsolete in
    let P5 = map (previous e.obsolete) (parts_of (previous_strings e.previous)) in
    all_both P (map translator e.translator) (map extracted e.extracted ++ (map reference e.references ++ (flag_lines e.flags ++ P5))) (each_is e.obsolete translator e.translator (λ x. tt))
    (all_both P (map extracted e.extracted) (map reference e.references ++ (flag_lines e.flags ++ P5)) (each_is e.obsolete extracted e.extracted (λ x. tt))
    (all_both P (map reference e.references) (flag_lines e.flags ++ P5) (each_is e.obsolete reference e.references (λ x. tt))
    (all_both P (flag_lines e.flags) P5 (flags_are e.obsolete e.flags) (each_is e.obsolete (previous e.obsolete) (parts_of (previous_strings e.previous)) (λ x. refl)))))

-- ---- the entry

-- the lines of an entry
unfoldable pub entry_lines : Entry → List Line
entry_lines e = comment_lines e ++ map (message e.obsolete) (parts_of (entry_strings e))

pub entry_spelled : (e : Entry) → IsValidEntry e → SpellsEntry (entry_lines e) e
unfolding entry_lines
entry_spelled e valid = record {
  comments = comment_lines e;
  parts = parts_of (entry_strings e);
  cut = refl;
  marks = comments_are e;
  translator = translators e;
  extracted = extracteds e;
  references = references e;
  flags = ap flags_kept (all_flags e) ∙ flags_stay e.flags valid.flags;
  previous = subst (λ ps. SpellsStrings ps (previous_strings e.previous)) (sym (previous_parts e)) (strings_spelled (previous_strings e.previous));
  messages = strings_spelled (entry_strings e);
}

pub entry_written : (e : Entry) → IsValidEntry e → Written (entry_text e) (entry_lines e)
unfolding entry_text entry_lines
entry_written e valid =
    let o = e.obsolete in
    let P5 = parts_of (previous_strings e.previous) in
    let P6 = parts_of (entry_strings e) in
    let previouses = strings_written (previous_mark o) (previous o) (previous_strings e.previous) (λ text h. previous_line o (quoted text) (continues text) (piece_body text h) refl)
    (previous_first o e.previous.ctx e.previous.id e.previous.plural) valid.previous in
    let messages = strings_written (message_mark o) (message o) (entry_strings e) (λ text h. message_line o (quoted text) (continues text) (piece_body text h))
    (messages_begin o (entry_strings e) (entry_digits e.ctx e.plural e.id e.forms valid.most)) valid.strings in
    same_written refl (simp append_assoc)
    (both_written _ _ (map translator e.translator) _ (each_written IsCommentLine (λ text. codes "#" ++ spaced text) translator translator_line e.translator valid.translator)
    (both_written _ _ (map extracted e.extracted) _ (each_written IsCommentLine (λ text. codes "#." ++ spaced text) extracted extracted_line e.extracted valid.extracted)
    (both_written _ _ (map reference e.references) _ (each_written IsCommentLine (λ text. codes "#:" ++ spaced text) reference reference_line e.references valid.references)
    (both_written _ _ (flag_lines e.flags) _ (flags_written e.flags valid.flags.each)
    (both_written _ _ (map (previous o) P5) (map (message o) P6) previouses messages)))))
