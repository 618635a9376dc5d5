-- What the texts of a line keep: a string or a comment line of Unicode, a flag, a digit up to 7.
use Rattle.std.proofs.Common.{◌≡◌, ◌≢◌, ℕ, List, [], ◌∷◌, ◌++◌, Bool, true, false, not, ◌&&◌, ◌||◌, ap, cond, map, drop, refl, Option, Some, None, lit<, IsTrue}
use Rattle.std.specs.Prelude.{flat_map, filter}
use Rattle.std.specs.List.{fold, filter_map, cons_option, list_all, AllByRecursion}
use Rattle.std.proofs.lemmas.Str.{IsUtf8-append, IsUtf8-from_is_utf8}
use Rattle.std.proofs.lemmas.Slice.Eq.{bytes_eq-Decides}
use Rattle.std.specs.Str.{bytes_eq, is_utf8, chars}
use Rattle.po_lex.specs.Lines.{Part, begins, continues, Line, blank, translator, extracted, reference, flags, previous, message}
use Rattle.po_text.specs.Entries.{Keyed}
use Rattle.po_text.specs.Texts.{Text}
use Rattle.po_text.specs.Strings.{is_string_byte}
use Rattle.po_text.specs.Valid.{IsString, IsCommentLine, IsFlag, AreFlags, AreDistinct, AllStrings, fuzzy}
use Rattle.po_read.specs.Spells.{go_on, add_part, strings_of, translator_text, extracted_text, reference_text, flag_items, previous_part, flags_kept}
use Rattle.po_text.specs.Flags.{has_text, add_once}
pub use Rattle.po_read.specs.Drafts.{IsDigitKey, IsSoundPart, IsSoundLine}
use Rattle.po_read.proofs.Drafts.{IfText}
use Rattle.po_text.proofs.EntryLists.{all_push, all_both, AreOthers, none_of, distinct_push}

-- ---- lists

pub all_texts : (f : Line → Option Text) (P : Text → Type 0) → ((line : Line) → IsSoundLine line → IfText (f line) P) → (lines : List Line) → AllByRecursion IsSoundLine lines → AllByRecursion P (filter_map f lines)
all_texts f P imp [] h = tt
all_texts f P imp (line ∷ lines) h = by (f line) (imp line h.0) (all_texts f P imp lines h.1)
  where
    by : (o : Option Text) → IfText o P → AllByRecursion P (filter_map f lines) → AllByRecursion P (cons_option o (filter_map f lines))
    by None t rest = rest
    by (Some text) t rest = (t, rest)

pub translator_sound : (line : Line) → IsSoundLine line → IfText (translator_text line) IsCommentLine
translator_sound blank h = tt
translator_sound (translator text) h = h
translator_sound (extracted text) h = tt
translator_sound (reference text) h = tt
translator_sound (flags items) h = tt
translator_sound (previous obsolete part) h = tt
translator_sound (message obsolete part) h = tt

pub extracted_sound : (line : Line) → IsSoundLine line → IfText (extracted_text line) IsCommentLine
extracted_sound blank h = tt
extracted_sound (translator text) h = tt
extracted_sound (extracted text) h = h
extracted_sound (reference text) h = tt
extracted_sound (flags items) h = tt
extracted_sound (previous obsolete part) h = tt
extracted_sound (message obsolete part) h = tt

pub reference_sound : (line : Line) → IsSoundLine line → IfText (reference_text line) IsCommentLine
reference_sound blank h = tt
reference_sound (translator text) h = tt
reference_sound (extracted text) h = tt
reference_sound (reference text) h = h
reference_sound (flags items) h = tt
reference_sound (previous obsolete part) h = tt
reference_sound (message obsolete part) h = tt

pub items_sound : (lines : List Line) → AllByRecursion IsSoundLine lines → AllByRecursion IsFlag (flat_map flag_items lines)
items_sound [] h = tt
items_sound (blank ∷ lines) h = items_sound lines h.1
items_sound (translator text ∷ lines) h = items_sound lines h.1
items_sound (extracted text ∷ lines) h = items_sound lines h.1
items_sound (reference text ∷ lines) h = items_sound lines h.1
items_sound (flags items ∷ lines) h = all_both IsFlag items (flat_map flag_items lines) h.0 (items_sound lines h.1)
items_sound (previous obsolete part ∷ lines) h = items_sound lines h.1
items_sound (message obsolete part ∷ lines) h = items_sound lines h.1

pub previous_sound : (lines : List Line) → AllByRecursion IsSoundLine lines → AllByRecursion IsSoundPart (filter_map previous_part lines)
previous_sound [] h = tt
previous_sound (blank ∷ lines) h = previous_sound lines h.1
previous_sound (translator text ∷ lines) h = previous_sound lines h.1
previous_sound (extracted text ∷ lines) h = previous_sound lines h.1
previous_sound (reference text ∷ lines) h = previous_sound lines h.1
previous_sound (flags items ∷ lines) h = previous_sound lines h.1
previous_sound (previous obsolete part ∷ lines) h = (h.0.1, previous_sound lines h.1)
previous_sound (message obsolete part ∷ lines) h = previous_sound lines h.1

pub parts_sound : (obsolete : Bool) (parts : List Part) → AllByRecursion IsSoundLine (map (message obsolete) parts) → AllByRecursion IsSoundPart parts
parts_sound obsolete [] h = tt
parts_sound obsolete (part ∷ parts) h = (h.0, parts_sound obsolete parts h.1)

-- ---- strings

true_both : (a b : Bool) → a ≡ true → b ≡ true → (a && b) ≡ true
true_both true b h k = k
true_both false b h k = cc

true_first : (a b : Bool) → (a && b) ≡ true → (a ≡ true) × (b ≡ true)
true_first true b h = (refl, h)
true_first false b h = cc

bytes_both : (test : ℕ → Bool) (a b : List ℕ) → IsTrue (list_all test a) → IsTrue (list_all test b) → IsTrue (list_all test (a ++ b))
bytes_both test [] b h k = k
bytes_both test (x ∷ a) b h k = let f = true_first (test x) (list_all test a) h in true_both (test x) (list_all test (a ++ b)) f.0 (bytes_both test a b f.1 k)

pub string_both : (a b : Text) → IsString a → IsString b → IsString (a ++ b)
string_both a b h k = (IsUtf8-append a b h.0 k.0, bytes_both is_string_byte a b h.1 k.1)

go_on_sound : (strings : List Keyed) (more : Text) → AllStrings IsString strings → IsString more → AllStrings IsString (go_on strings more)
go_on_sound [] more h k = tt
go_on_sound (s ∷ []) more h k = (string_both s.1 more h.0 k, tt)
go_on_sound (s ∷ t ∷ strings) more h k = (h.0, go_on_sound (t ∷ strings) more h.1 k)

fold_sound : (strings : List Keyed) (parts : List Part) → AllStrings IsString strings → AllByRecursion IsSoundPart parts → AllStrings IsString (fold add_part strings parts)
fold_sound strings [] h k = h
fold_sound strings (begins keyword text ∷ parts) h k = fold_sound (strings ++ (keyword, text) ∷ []) parts (all_push (λ (s : Keyed). IsString s.1) strings (keyword, text) h k.0.1) k.1
fold_sound strings (continues text ∷ parts) h k = fold_sound (go_on strings text) parts (go_on_sound strings text h k.0) k.1

pub strings_sound : (parts : List Part) → AllByRecursion IsSoundPart parts → AllStrings IsString (strings_of parts)
strings_sound parts h = fold_sound [] parts tt h

-- ---- flags

same_text : (a b : Text) → bytes_eq a b ≡ true → a ≡ b
same_text a b h = (bytes_eq-Decides a b).0 h

abbrev AreKept : List Text → Type 0
AreKept texts = AllByRecursion IsFlag texts × AreDistinct texts

kept_one : (texts : List Text) (text : Text) (b : Bool) → has_text text texts ≡ b → AreKept texts → IsFlag text → AreKept (cond b texts (texts ++ text ∷ []))
kept_one texts text true e k f = k
kept_one texts text false e k f = (all_push IsFlag texts text k.0 f, distinct_push texts text k.1 (none_of text texts e))

kept_all : (texts items : List Text) → AreKept texts → AllByRecursion IsFlag items → AreKept (fold add_once texts items)
kept_all texts [] k f = k
kept_all texts (item ∷ items) k f = kept_all (add_once texts item) items (kept_one texts item (has_text item texts) refl k f.0) f.1

abbrev is_other : Text → Bool
is_other text = not (bytes_eq fuzzy text)

filtered : (P : Text → Type 0) (texts : List Text) → AllByRecursion P texts → AllByRecursion P (filter is_other texts)
filtered P [] h = tt
filtered P (text ∷ texts) h = by (is_other text) (filtered P texts h.1)
  where
    by : (b : Bool) → AllByRecursion P (filter is_other texts) → AllByRecursion P (cond b (text ∷ filter is_other texts) (filter is_other texts))
    by true rest = (h.0, rest)
    by false rest = rest

filtered_distinct : (texts : List Text) → AreDistinct texts → AreDistinct (filter is_other texts)
filtered_distinct [] h = tt
filtered_distinct (text ∷ texts) h = by (is_other text) (filtered_distinct texts h.1)
  where
    by : (b : Bool) → AreDistinct (filter is_other texts) → AreDistinct (cond b (text ∷ filter is_other texts) (filter is_other texts))
    by true rest = (filtered (λ (other : Text). other ≢ text) texts h.0, rest)
    by false rest = rest

filtered_others : (texts : List Text) → AreOthers fuzzy (filter is_other texts)
filtered_others [] = tt
filtered_others (text ∷ texts) = by (bytes_eq fuzzy text) refl (filtered_others texts)
  where
    by : (b : Bool) → bytes_eq fuzzy text ≡ b → AreOthers fuzzy (filter is_other texts) → AreOthers fuzzy (cond (not b) (text ∷ filter is_other texts) (filter is_other texts))
    by true e rest = rest
    by false e rest = ((none_of fuzzy (text ∷ []) (ap (λ b. b || false) e)).0, rest)

fuzzy_flag : IsFlag fuzzy
unfolding is_utf8 chars lib.Utf8.encode
fuzzy_flag = record { line = (IsUtf8-from_is_utf8 fuzzy refl, refl); some = lit< tt; one = refl; trimmed = refl }

others_behind : (texts : List Text) → AreOthers fuzzy texts → AreOthers fuzzy (drop 1 texts)
others_behind [] h = tt
others_behind (text ∷ texts) h = h.1

fuzzy_put_first : (texts : List Text) (b : Bool) → has_text fuzzy texts ≡ b → AreKept texts → AreFlags (cond b (fuzzy ∷ filter is_other texts) texts)
fuzzy_put_first texts true e k = record { each = (fuzzy_flag, filtered IsFlag texts k.0); distinct = (filtered_others texts, filtered_distinct texts k.1); fuzzy_first = filtered_others texts }
fuzzy_put_first texts false e k = record { each = k.0; distinct = k.1; fuzzy_first = others_behind texts (none_of fuzzy texts e) }

pub flags_sound : (items : List Text) → AllByRecursion IsFlag items → AreFlags (flags_kept items)
flags_sound items h = let texts = fold add_once [] items in fuzzy_put_first texts (has_text fuzzy texts) refl (kept_all [] items (tt, tt) h)
