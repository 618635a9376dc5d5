-- The texts that values are written as: compact JSON (RFC 8259), a list of strings where there are several, null for a string that
-- is absent. This project's own rule; comments, flags, previous strings and headers are those of the GNU gettext manual ("The
-- Format of PO Files").
use Rattle.std.specs.Prelude.{◌≡◌, List, [], ◌∷◌, length, true, Option, Some, None, unwrap_or}
use Rattle.std.specs.Option.{option_map_or}
use Rattle.serde_json.specs.Data.{Data, null, string, array}
use Rattle.serde_json.specs.View.{items_of}
use Rattle.serde_json.specs.Written.{compact_text}
use Rattle.po_text.specs.declared.entry.Entry.{Entry}
use Rattle.po_text.specs.declared.entry.Previous.{Previous}
use Rattle.po_text.specs.Entries.{is_header}
use Rattle.po_text.specs.Strings.{is_string, is_forms}
use Rattle.po_text.specs.Texts.{Text}
use Rattle.units.specs.Rules.{first_form}
use Rattle.request_book.specs.Words.{strings}

abbrev pub texts_text : List Text → Text
texts_text texts = compact_text (strings texts)

-- ---- previous strings: what the context, the msgid and the msgid_plural were

abbrev pub string_or_null : Option Text → Data
string_or_null None = null
string_or_null (Some text) = string text

abbrev pub previous_data : Previous → Data
previous_data previous = array (items_of (
    string_or_null previous.ctx ∷ string_or_null previous.id ∷ string_or_null previous.plural ∷ []))

abbrev pub previous_text : Previous → Text
previous_text previous = compact_text (previous_data previous)

-- each that is there is a string of a catalogue
pub record ArePrevious (previous : Previous) : Type 0 where
  pub ctx : option_map_or is_string previous.ctx true ≡ true
  pub id : option_map_or is_string previous.id true ≡ true
  pub plural : option_map_or is_string previous.plural true ≡ true

-- ---- a language's header

-- its string, which is its one form
abbrev pub header_string : Entry → Text
header_string header = unwrap_or (first_form header.forms) []

abbrev pub header_data : Entry → Data
header_data header = array (items_of (
    strings header.translator ∷ strings header.extracted ∷ strings header.references ∷ strings header.flags
    ∷ previous_data header.previous ∷ string (header_string header) ∷ []))

abbrev pub header_text : Entry → Text
header_text header = compact_text (header_data header)

-- an entry of a header's kind, its strings within their limits
pub record IsHeaderEntry (header : Entry) : Type 0 where
  pub plain : is_header header ≡ true
  pub one_form : length header.forms ≡ 1
  pub form : is_forms header.forms ≡ true
  pub previous : ArePrevious header.previous
