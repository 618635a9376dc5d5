-- Which catalogue a text spells: the GNU gettext manual, "The Format of PO Files". Repeated flags, the place of `fuzzy` and the limits are this project's profile.
use Rattle.std.specs.Prelude.{◌≡◌, ℕ, ◌-◌, ◌≤◌, List, [], ◌∷◌, ◌++◌, Bool, true, false, not, map, length, Option, Some, None, Ok, if◌then◌else◌, IsUtf8, ⊤, flat_map, filter}
use Rattle.std.specs.List.{filter_map, fold, AllZip, AllByRecursion}
use Rattle.po_lex.specs.Lines.{Part, begins, continues, Line, blank, translator, extracted, reference, flags, previous, message, line_of, lines_of}
use Rattle.po_text.specs.Entries.{Keyed, entry_strings, previous_strings, is_header_key}
use Rattle.po_text.specs.Strings.{string_limit}
use Rattle.po_text.specs.Texts.{Text}
use Rattle.po_text.specs.declared.entry.Entry.{Entry}
use Rattle.po_text.specs.Valid.{IsValid, AllStrings}
use Rattle.po_text.specs.Flags.{add_once, with_fuzzy_first}

-- ---- the strings that message lines and pieces spell

-- a text at the end of the last string
abbrev pub go_on : List Keyed → Text → List Keyed
go_on [] more = []
go_on (string ∷ []) more = (string.0, string.1 ++ more) ∷ []
go_on (string ∷ other ∷ strings) more = string ∷ go_on (other ∷ strings) more

abbrev pub add_part : List Keyed → Part → List Keyed
add_part strings (begins keyword text) = strings ++ (keyword, text) ∷ []
add_part strings (continues text) = go_on strings text

-- each string is what a keyword's piece and the pieces behind it stand for
abbrev pub strings_of : List Part → List Keyed
strings_of parts = fold add_part [] parts

abbrev pub BeginsFirst : List Part → Type 0
BeginsFirst [] = ⊤
BeginsFirst (begins keyword text ∷ parts) = ⊤
BeginsFirst (continues text ∷ parts) = ⊥

abbrev pub SpellsStrings : List Part → List Keyed → Type 0
SpellsStrings parts strings = BeginsFirst parts × (strings_of parts ≡ strings)

-- ---- the comment lines of each kind

abbrev pub translator_text : Line → Option Text
translator_text (translator text) = Some text
translator_text _ = None

abbrev pub extracted_text : Line → Option Text
extracted_text (extracted text) = Some text
extracted_text _ = None

abbrev pub reference_text : Line → Option Text
reference_text (reference text) = Some text
reference_text _ = None

abbrev pub flag_items : Line → List Text
flag_items (flags items) = items
flag_items _ = []

abbrev pub previous_part : Line → Option Part
previous_part (previous obsolete part) = Some part
previous_part _ = None

-- a comment line of an entry that is obsolete or not
abbrev pub IsCommentOf : Bool → Line → Type 0
IsCommentOf obsolete blank = ⊥
IsCommentOf obsolete (translator text) = ⊤
IsCommentOf obsolete (extracted text) = ⊤
IsCommentOf obsolete (reference text) = ⊤
IsCommentOf obsolete (flags items) = ⊤
IsCommentOf obsolete (previous mark part) = mark ≡ obsolete
IsCommentOf obsolete (message mark part) = ⊥

abbrev pub flags_kept : List Text → List Text
flags_kept items = with_fuzzy_first (fold add_once [] items)

-- ---- entries and catalogues

-- The lines are comment lines in any order of kinds, and then message lines in order.
pub record SpellsEntry (lines : List Line) (e : Entry) : Type 0 where
  pub comments : List Line
  pub parts : List Part
  pub cut : lines ≡ comments ++ map (message e.obsolete) parts
  pub marks : AllByRecursion (IsCommentOf e.obsolete) comments
  pub translator : filter_map translator_text comments ≡ e.translator
  pub extracted : filter_map extracted_text comments ≡ e.extracted
  pub references : filter_map reference_text comments ≡ e.references
  pub flags : flags_kept (flat_map flag_items comments) ≡ e.flags
  pub previous : SpellsStrings (filter_map previous_part comments) (previous_strings e.previous)
  pub messages : SpellsStrings parts (entry_strings e)

abbrev pub is_blank : Line → Bool
is_blank blank = true
is_blank _ = false

pub record Spells (bytes : List ℕ) (catalogue : List Entry) : Type 0 where
  pub utf8 : IsUtf8 bytes
  -- each line is of a form
  pub lines : List Line
  pub read : map line_of (lines_of bytes) ≡ map Ok lines
  -- those that aren't blank, cut into groups, one for each entry
  pub groups : List (List Line)
  pub cut : flat_map (λ group. group) groups ≡ filter (λ line. not (is_blank line)) lines
  pub entries : AllZip SpellsEntry groups catalogue
  pub valid : IsValid catalogue

-- ---- limits

pub record Limits : Type 0 where
  pub bytes : ℕ
  pub entries : ℕ
  pub string : ℕ

abbrev pub text_limit : ℕ
text_limit = 16777216

-- besides the header
abbrev pub entry_limit : ℕ
entry_limit = 50000

abbrev pub limits : Limits
limits = record { bytes = text_limit; entries = entry_limit; string = string_limit }

abbrev pub besides_header : List Entry → ℕ
besides_header [] = 0
besides_header (e ∷ es) = length (e ∷ es) - (if is_header_key e.ctx e.id then 1 else 0)

pub record IsWithin (most : Limits) (source : List ℕ) (catalogue : List Entry) : Type 0 where
  pub bytes : length source ≤ most.bytes
  pub entries : besides_header catalogue ≤ most.entries
  pub strings : AllByRecursion (λ e. AllStrings (λ text. length text ≤ most.string) (entry_strings e)) catalogue
  pub previous : AllByRecursion (λ e. AllStrings (λ text. length text ≤ most.string) (previous_strings e.previous)) catalogue
