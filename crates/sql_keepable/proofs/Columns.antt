-- Columns of UTF-8 texts are UTF-8.
use Rattle.std.proofs.Common.{◌≡◌, List, [], ◌∷◌, ◌++◌, map, Bool, true, false, Option, Some, None, refl}
use Rattle.std.specs.List.{AllByRecursion}
use Rattle.std.specs.Option.{option_map_or}
use Rattle.std.specs.Prelude.{All, IfSome, IsUtf8, unwrap_or}
use Rattle.std.proofs.lemmas.List.Elements.{recursion_from_All}
use Rattle.std.proofs.lemmas.Str.{IsUtf8-append, IsUtf8-nil}
use Rattle.json.proofs.Printed.Utf8.{IsUtf8-are_ascii, IsUtf8-quoted}
use Rattle.serde_json.specs.Data.{Data, string, array}
use Rattle.serde_json.specs.View.{items_of}
use Rattle.serde_json.specs.Written.{comma_if, compact_text, items_text}
use Rattle.po_text.specs.declared.entry.Entry.{Entry}
use Rattle.po_text.specs.declared.entry.Previous.{Previous}
use Rattle.po_text.specs.Strings.{is_string}
use Rattle.po_text.specs.Texts.{Text}
use Rattle.request_book.specs.Words.{strings}
use Rattle.sql_columns.specs.Written.{string_or_null, texts_text, previous_data, previous_text, header_string, header_text}
use Rattle.units.specs.Rules.{first_form}
use Rattle.sql_keepable.specs.Keepable.{IsPlural}

-- ---- JSON

abbrev HasText : Data → Type 0
HasText d = IsUtf8 (compact_text d)

comma_utf8 : (later : Bool) → IsUtf8 (comma_if later)
comma_utf8 true = IsUtf8-are_ascii (44 ∷ []) refl
comma_utf8 false = IsUtf8-nil

items_utf8 : (later : Bool) (ds : List Data) → AllByRecursion HasText ds → IsUtf8 (items_text later (items_of ds))
items_utf8 later [] each = IsUtf8-are_ascii (93 ∷ []) refl
items_utf8 later (d ∷ ds) each = IsUtf8-append (comma_if later) _ (comma_utf8 later) (IsUtf8-append (compact_text d) _ each.0 (items_utf8 true ds each.1))

array_utf8 : (ds : List Data) → AllByRecursion HasText ds → IsUtf8 (compact_text (array (items_of ds)))
array_utf8 ds each = IsUtf8-append (91 ∷ []) _ (IsUtf8-are_ascii (91 ∷ []) refl) (items_utf8 false ds each)

-- ---- columns

strings_utf8 : (texts : List Text) → AllByRecursion IsUtf8 texts → AllByRecursion HasText (map string texts)
strings_utf8 [] each = tt
strings_utf8 (text ∷ texts) each = (IsUtf8-quoted text each.0, strings_utf8 texts each.1)

pub texts_utf8 : (texts : List Text) → All IsUtf8 texts → IsUtf8 (texts_text texts)
texts_utf8 texts each = array_utf8 (map string texts) (strings_utf8 texts (recursion_from_All IsUtf8 texts each))

or_null_utf8 : (o : Option Text) → IfSome o IsPlural → HasText (string_or_null o)
or_null_utf8 None fits = IsUtf8-are_ascii _ refl
or_null_utf8 (Some text) fits = IsUtf8-quoted text fits.1

pub previous_utf8 : (previous : Previous) → IfSome previous.ctx IsPlural → IfSome previous.id IsPlural → IfSome previous.plural IsPlural → IsUtf8 (previous_text previous)
previous_utf8 previous ctx id plural =
    array_utf8 (string_or_null previous.ctx ∷ string_or_null previous.id ∷ string_or_null previous.plural ∷ [])
    (or_null_utf8 previous.ctx ctx, (or_null_utf8 previous.id id, (or_null_utf8 previous.plural plural, tt)))

first_utf8 : (forms : List Text) → AllByRecursion IsUtf8 forms → IsUtf8 (unwrap_or (first_form forms) [])
first_utf8 [] each = IsUtf8-nil
first_utf8 (form ∷ forms) each = each.0

pub header_utf8 : (header : Entry) → IsUtf8 (texts_text header.translator) → IsUtf8 (texts_text header.extracted) → IsUtf8 (texts_text header.references) → IsUtf8 (texts_text header.flags)
    → IsUtf8 (previous_text header.previous) → All IsUtf8 header.forms → IsUtf8 (header_text header)
header_utf8 header translator extracted references flags previous forms =
    let text : IsUtf8 (header_string header) = first_utf8 header.forms (recursion_from_All IsUtf8 header.forms forms) in
    let last : HasText (string (header_string header)) = IsUtf8-quoted (header_string header) text in
    array_utf8
    (strings header.translator ∷ strings header.extracted ∷ strings header.references ∷ strings header.flags ∷ previous_data header.previous ∷ string (header_string header) ∷ [])
    (translator, (extracted, (references, (flags, (previous, (last, tt))))))

pub key_utf8 : (ctx : Option Text) (id : Text) → IfSome ctx IsPlural → IsUtf8 id → IsUtf8 (option_map_or (λ c. c ++ 4 ∷ id) ctx id)
key_utf8 None id fits utf8 = utf8
key_utf8 (Some ctx) id fits utf8 = IsUtf8-append ctx _ fits.1 (IsUtf8-append (4 ∷ []) id (IsUtf8-are_ascii (4 ∷ []) refl) utf8)

pub optional_string : (o : Option Text) → IfSome o IsPlural → option_map_or is_string o true ≡ true
optional_string None fits = refl
optional_string (Some text) fits = fits.0
