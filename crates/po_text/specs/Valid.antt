-- Valid catalogues: the GNU gettext manual, "The Format of PO Files", for keys, flags and the header entry; the GNU gettext manual, "Plural forms", for the forms; the limits of characters are this project's profile.
use Rattle.std.specs.Prelude.{◌≡◌, ◌≢◌, ◌≤◌, ◌<◌, List, [], ◌∷◌, false, not, ◌==◌, length, drop, None, codes, IsUtf8, IsTrue, ⊤}
use Rattle.std.specs.List.{list_all, AllByRecursion}
use Rattle.std.specs.Str.{byte}
use Rattle.po_lex.specs.Reading.{trim}
use Rattle.po_lex.specs.Lines.{is_comment_text}
use Rattle.po_text.specs.Entries.{key_of, Keyed, entry_strings, previous_strings}
use Rattle.po_text.specs.Texts.{Text}
use Rattle.po_text.specs.declared.entry.Entry.{Entry}
use Rattle.po_text.specs.Header.{has_charset}
use Rattle.po_text.specs.Strings.{is_string_byte, form_limit}

-- Unicode text without U+0000 to U+0006 and U+000E to U+001F
abbrev pub IsString : Text → Type 0
IsString text = IsUtf8 text × IsTrue (list_all is_string_byte text)

-- Unicode text without characters below U+0020 other than tab
abbrev pub IsCommentLine : Text → Type 0
IsCommentLine text = IsUtf8 text × IsTrue (is_comment_text text)

abbrev pub fuzzy : Text
fuzzy = codes "fuzzy"

pub record IsFlag (flag : Text) : Type 0 where
  pub line : IsCommentLine flag
  pub some : 0 < length flag
  pub one : IsTrue (list_all (λ b. not (b == byte ",")) flag)
  pub trimmed : trim flag ≡ flag

-- no text twice
abbrev pub AreDistinct : List Text → Type 0
AreDistinct [] = ⊤
AreDistinct (text ∷ texts) = AllByRecursion (λ other. other ≢ text) texts × AreDistinct texts

pub record AreFlags (flags : List Text) : Type 0 where
  pub each : AllByRecursion IsFlag flags
  pub distinct : AreDistinct flags
  pub fuzzy_first : AllByRecursion (λ flag. flag ≢ fuzzy) (drop 1 flags)

-- each text of the strings
abbrev pub AllStrings : (Text → Type 0) → List Keyed → Type 0
AllStrings P strings = AllByRecursion (λ keyed. P keyed.1) strings

pub record IsValidEntry (e : Entry) : Type 0 where
  pub translator : AllByRecursion IsCommentLine e.translator
  pub extracted : AllByRecursion IsCommentLine e.extracted
  pub references : AllByRecursion IsCommentLine e.references
  pub flags : AreFlags e.flags
  pub strings : AllStrings IsString (entry_strings e)
  pub previous : AllStrings IsString (previous_strings e.previous)
  pub some : 0 < length e.forms
  pub most : length e.forms ≤ form_limit
  pub single : e.plural ≡ None → length e.forms ≡ 1

-- an empty msgid without a context
abbrev pub HasHeaderKey : Entry → Type 0
HasHeaderKey e = key_of e ≡ (None, [])

pub record IsHeader (e : Entry) : Type 0 where
  pub key : HasHeaderKey e
  pub plural : e.plural ≡ None
  pub obsolete : e.obsolete ≡ false
  pub charset : AllByRecursion (λ form. IsTrue (has_charset form)) e.forms

-- Only the first entry may have an empty msgid and no context, and is then a header.
abbrev pub HasHeaderFirst : List Entry → Type 0
HasHeaderFirst [] = ⊤
HasHeaderFirst (e ∷ es) = (HasHeaderKey e → IsHeader e) × AllByRecursion (λ other. HasHeaderKey other → ⊥) es

-- no key twice, over obsolete and other entries
abbrev pub HasUniqueKeys : List Entry → Type 0
HasUniqueKeys [] = ⊤
HasUniqueKeys (e ∷ es) = AllByRecursion (λ other. key_of other ≢ key_of e) es × HasUniqueKeys es

pub record IsValid (catalogue : List Entry) : Type 0 where
  pub each : AllByRecursion IsValidEntry catalogue
  pub unique : HasUniqueKeys catalogue
  pub header : HasHeaderFirst catalogue
