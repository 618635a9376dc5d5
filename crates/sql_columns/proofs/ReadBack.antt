-- A value made of strings, nulls and lists of such values reads back from its compact text.
use Rattle.std.proofs.Common.{◌≡◌, ℕ, suc, ◌≤◌, max, List, [], ◌∷◌, ◌++◌, append-nil, false, Option, Some, None, option_and_then, option_map, refl, sym, ap, ◌∙◌, arith}
use Rattle.std.specs.Prelude.{⊤, map}
use Rattle.std.specs.List.{AllByRecursion}
use Rattle.json.specs.Json as json
use Rattle.json.specs.Tree as tree
use Rattle.json.specs.Lex.{tokens}
use Rattle.json.proofs.Printed.Tokens.{tokens-print}
use Rattle.json.proofs.Printed.Trees.{value-json_tokens, ArePrintable-json_tokens}
use Rattle.serde_json.specs.Data.{Data, null, string, array}
use Rattle.serde_json.specs.Read.{read, of_json, of_items}
use Rattle.serde_json.specs.View.{items_of}
use Rattle.serde_json.specs.Written.{outline, items_outline, has_float, items_have_float, compact_text}
use Rattle.serde_json.proofs.Texts.{print-outline}
use Rattle.po_text.specs.declared.entry.Entry.{Entry}
use Rattle.po_text.specs.declared.entry.Previous.{Previous}
use Rattle.po_text.specs.Texts.{Text}
use Rattle.request_book.specs.Words.{strings}
use Rattle.sql_columns.specs.Written.{string_or_null, previous_data, header_string, header_data}

-- a value with no number, no deeper than n
pub record IsPlain (n : ℕ) (d : Data) : Type 0 where
  pub numbers : tree.HasNumbers (outline d)
  pub shallow : tree.depth (outline d) ≤ n
  pub back : of_json (outline d) ≡ Some d
  pub flat : has_float d ≡ false

string_plain : (s : List ℕ) → IsPlain 0 (string s)
string_plain s = record { numbers = tt; shallow = omega arith; back = refl; flat = refl }

null_plain : IsPlain 0 null
null_plain = record { numbers = tt; shallow = omega arith; back = refl; flat = refl }

weaker : (m n : ℕ) (d : Data) → m ≤ n → IsPlain m d → IsPlain n d
weaker m n d small p = record { numbers = p.numbers; shallow = let h = p.shallow in omega arith; back = p.back; flat = p.flat }

-- ---- lists

abbrev AllPlain : ℕ → List Data → Type 0
AllPlain n ds = AllByRecursion (IsPlain n) ds

items_numbers : (n : ℕ) (ds : List Data) → AllPlain n ds → tree.ItemsHaveNumbers (items_outline (items_of ds))
items_numbers n [] plain = tt
items_numbers n (d ∷ ds) plain = (plain.0.numbers, items_numbers n ds plain.1)

max_least : (a b n : ℕ) → a ≤ n → b ≤ n → max a b ≤ n
max_least a b n x y = omega arith

items_depth : (n : ℕ) (ds : List Data) → AllPlain n ds → tree.items_depth (items_outline (items_of ds)) ≤ n
items_depth n [] plain = omega arith
items_depth n (d ∷ ds) plain = max_least _ _ n plain.0.shallow (items_depth n ds plain.1)

items_back : (n : ℕ) (ds : List Data) → AllPlain n ds → of_items (items_outline (items_of ds)) ≡ Some (items_of ds)
items_back n [] plain = refl
items_back n (d ∷ ds) plain = rw (plain.0.back, items_back n ds plain.1) refl

items_flat : (n : ℕ) (ds : List Data) → AllPlain n ds → items_have_float (items_of ds) ≡ false
items_flat n [] plain = refl
items_flat n (d ∷ ds) plain = rw (plain.0.flat, items_flat n ds plain.1) refl

one_deeper : (m n : ℕ) → m ≤ n → suc m ≤ suc n
one_deeper m n h = omega arith

array_plain : (n : ℕ) (ds : List Data) → AllPlain n ds → IsPlain (suc n) (array (items_of ds))
array_plain n ds plain = record {
  numbers = items_numbers n ds plain;
  shallow = one_deeper _ n (items_depth n ds plain);
  back = ap (option_map array) (items_back n ds plain);
  flat = items_flat n ds plain;
}

-- ---- the values of columns

all_strings : (ts : List Text) → AllPlain 0 (map string ts)
all_strings [] = tt
all_strings (t ∷ ts) = (string_plain t, all_strings ts)

pub strings_plain : (ts : List Text) → IsPlain 1 (strings ts)
strings_plain ts = array_plain 0 (map string ts) (all_strings ts)

string_or_null_plain : (o : Option Text) → IsPlain 0 (string_or_null o)
string_or_null_plain None = null_plain
string_or_null_plain (Some t) = string_plain t

pub previous_plain : (p : Previous) → IsPlain 1 (previous_data p)
previous_plain p = array_plain 0 (string_or_null p.ctx ∷ string_or_null p.id ∷ string_or_null p.plural ∷ []) (string_or_null_plain p.ctx, (string_or_null_plain p.id, (string_or_null_plain p.plural, tt)))

pub header_plain : (h : Entry) → IsPlain 2 (header_data h)
header_plain h = array_plain 1 (strings h.translator ∷ strings h.extracted ∷ strings h.references ∷ strings h.flags ∷ previous_data h.previous ∷ string (header_string h) ∷ []) (
  strings_plain h.translator,
  (
    strings_plain h.extracted,
    (strings_plain h.references, (strings_plain h.flags, (previous_plain h.previous, (weaker 0 1 (string (header_string h)) (omega arith) (string_plain (header_string h)), tt)))),
  ),
)

pub strings_flat : (ts : List Text) → has_float (strings ts) ≡ false
strings_flat ts = (strings_plain ts).flat

pub previous_flat : (p : Previous) → has_float (previous_data p) ≡ false
previous_flat p = (previous_plain p).flat

pub header_flat : (h : Entry) → has_float (header_data h) ≡ false
header_flat h = (header_plain h).flat

-- ---- reading

-- such a value is read from its compact text
pub read_compact : (n : ℕ) (d : Data) → n ≤ 127 → IsPlain n d → read (compact_text d) ≡ Some d
read_compact n d shallow p =
    let deep : tree.depth (outline d) ≤ 127 = let h = p.shallow in omega arith in
    let ts = tree.json_tokens (outline d) in
    let lexed : tokens (compact_text d) ≡ ts ++ [] = ap tokens (sym (print-outline d)) ∙ tokens-print ts (ArePrintable-json_tokens (outline d) p.numbers) ∙ sym (append-nil ts) in
    ap (λ us. option_and_then of_json (option_and_then (λ p. json.if_last p.0 p.1) (json.value 127 us))) lexed
    ∙ ap (λ o. option_and_then of_json (option_and_then (λ p. json.if_last p.0 p.1) o)) (value-json_tokens (outline d) 127 [] deep) ∙ p.back
