-- What the readers of columns answer. Only private clauses and proofs cite this file.
use Rattle.std.specs.Prelude.{ℕ, ◌==◌, List, [], ◌∷◌, length, Bool, false, if◌then◌else◌, nat_lt, is_some, Option, Some, None, option_map, option_and_then}
use Rattle.std.specs.List.{position_or_len, before_first, after_first}
use Rattle.std.specs.Str.{bytes_eq}
use Rattle.serde_json.specs.Data.{Data}
use Rattle.serde_json.specs.Read.{read}
use Rattle.serde_json.specs.Find.{as_null, as_str, as_array, at}
use Rattle.uuid.specs.Text.{parsed}
use Rattle.po_text.specs.declared.entry.Entry.{Entry}
use Rattle.po_text.specs.declared.entry.Previous.{Previous}
use Rattle.po_text.specs.Texts.{Text}
use Rattle.units.specs.Units.{context_glue}
use Rattle.units.specs.declared.unit.Key.{Key}
use Rattle.request_book.specs.Words.{number_text}
use Rattle.request_book.specs.Fields.{only, text_of, each_of}
use Rattle.sql_columns.specs.declared.header.HeaderComments.{HeaderComments}
use Rattle.sql_columns.specs.Written.{texts_text, previous_text, header_text}

-- `x ← o` of a `do`: the value where there is one, else the whole is none
infixl 10 ◌>>=◌
abbrev ◌>>=◌ : {A B : Type 0} → Option A → (A → Option B) → Option B
o >>= f = option_and_then f o

-- ---- single columns

-- the number that is written so
abbrev pub number_read : Text → Option Text
number_read column = parsed column >>= only (λ number. bytes_eq (number_text number) column)

abbrev pub is_mark : ℕ → Bool
is_mark b = b == context_glue

-- what stands before the first U+0004 and what follows it, where there is one
abbrev pub key_parts : Text → Key
key_parts column = if nat_lt (position_or_len is_mark column) (length column) then record { ctx = Some (before_first is_mark column); id = after_first is_mark column }
    else record { ctx = None; id = column }

-- ---- JSON

abbrev pub texts_of : Data → Option (List Text)
texts_of d = as_array d >>= each_of as_str

abbrev pub string_or_null_of : Data → Option (Option Text)
string_or_null_of d = if is_some (as_null d) then Some None else option_map Some (text_of d)

-- the item of a list at a place, read by f
abbrev pub item_as : {A : Type 0} → (Data → Option A) → ℕ → Data → Option A
item_as f i d = at i d >>= f

abbrev pub previous_of : Data → Option Previous
previous_of d = do
  ctx ← item_as string_or_null_of 0 d
  id ← item_as string_or_null_of 1 d
  plural ← item_as string_or_null_of 2 d
  Some (record { ctx = ctx; id = id; plural = plural })

abbrev pub comments_of : Data → Option HeaderComments
comments_of d = do
  translator ← item_as texts_of 0 d
  extracted ← item_as texts_of 1 d
  references ← item_as texts_of 2 d
  flags ← item_as texts_of 3 d
  Some (record { translator = translator; extracted = extracted; references = references; flags = flags })

abbrev pub header_with : HeaderComments → Previous → Text → Entry
header_with comments previous form = record {
  translator = comments.translator;
  extracted = comments.extracted;
  references = comments.references;
  flags = comments.flags;
  previous = previous;
  ctx = None;
  id = [];
  plural = None;
  forms = form ∷ [];
  obsolete = false;
}

abbrev pub header_of : Data → Option Entry
header_of d = do
  comments ← comments_of d
  previous ← item_as previous_of 4 d
  form ← item_as text_of 5 d
  Some (header_with comments previous form)

-- the value that the JSON of a text stands for, where the text is what is written for it
abbrev pub read_as : {V : Type 0} → (Data → Option V) → (V → Text) → Text → Option V
read_as of written column = (read column >>= of) >>= only (λ value. bytes_eq (written value) column)

abbrev pub texts_read : Text → Option (List Text)
texts_read = read_as texts_of texts_text

abbrev pub previous_read : Text → Option Previous
previous_read = read_as previous_of previous_text

abbrev pub header_read : Text → Option Entry
header_read = read_as header_of header_text
