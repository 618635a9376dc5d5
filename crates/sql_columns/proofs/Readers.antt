-- Each reader of JSON gives back what was written, and what it gives is within its limits.
use Rattle.std.proofs.Common.{◌≡◌, ℕ, List, [], ◌∷◌, Bool, true, false, Option, Some, None, option_map, option_and_then, length, get_or, ◌<◌, inl, refl, sym, ap, ◌∙◌, subst, arith}
use Rattle.std.specs.Prelude.{if◌then◌else◌, not, ◌&&◌, is_none, unwrap_or}
use Rattle.std.specs.Option.{option_map_or}
use Rattle.std.specs.Prelude.{nat_le}
use Rattle.std.specs.List.{list_all}
use Rattle.std.proofs.lemmas.List.Folds.{list_all_at}
use Rattle.std.specs.Str.{bytes_eq}
use Rattle.std.proofs.lemmas.Slice.Eq.{bytes_eq-Decides}
use Rattle.std.proofs.lemmas.Bool.{and_parts}
use Rattle.serde_json.specs.Data.{Data, string}
use Rattle.serde_json.specs.Read.{read}
use Rattle.serde_json.specs.Written.{compact_text}
use Rattle.serde_json.specs.Find.{as_str}
use Rattle.po_text.specs.declared.entry.Entry.{Entry}
use Rattle.po_text.specs.declared.entry.Previous.{Previous}
use Rattle.po_text.specs.Strings.{is_string, is_forms}
use Rattle.po_text.specs.Texts.{Text, is_empty}
use Rattle.units.specs.Rules.{first_form}
use Rattle.uuid.specs.Text.{parsed, lower}
use Rattle.uuid.proofs.RoundTrips.{parses_hyphenated}
use Rattle.request_book.specs.Acts.{IsNumber}
use Rattle.request_book.specs.Words.{string_items, strings, number_text}
use Rattle.request_book.specs.Fields.{only, text_of, each_of}
use Rattle.sql_columns.specs.declared.header.HeaderComments.{HeaderComments}
use Rattle.sql_columns.specs.Written.{string_or_null, previous_data, header_data, texts_text, previous_text, header_text, ArePrevious, IsHeaderEntry, header_string}
use Rattle.sql_columns.specs.Readings.{string_or_null_of, texts_of, previous_of, header_of, header_with, read_as, texts_read, previous_read, header_read, number_read}
use Rattle.sql_columns.proofs.ReadBack.{IsPlain, strings_plain, previous_plain, header_plain, read_compact}

-- ---- options

pub and_then_some : {A B : Type 0} (f : A → Option B) (o : Option A) (y : B) → option_and_then f o ≡ Some y → (x : A) × (o ≡ Some x) × (f x ≡ Some y)
and_then_some f None y e = absurd cc
and_then_some f (Some x) y e = (x, refl, e)

pub map_some : {A B : Type 0} (f : A → B) (o : Option A) (y : B) → option_map f o ≡ Some y → (x : A) × (o ≡ Some x) × (f x ≡ y)
map_some f None y e = absurd cc
map_some f (Some x) y e = (x, refl, cc)

only_at : {A : Type 0} (b : Bool) (x y : A) → (if b then Some x else None) ≡ Some y → (x ≡ y) × (b ≡ true)
only_at true x y e = (cc, refl)
only_at false x y e = absurd cc

pub only_some : {A : Type 0} (p : A → Bool) (x y : A) → only p x ≡ Some y → (x ≡ y) × (p y ≡ true)
only_some p x y e = let h = only_at (p x) x y e in (h.0, subst (λ z. p z ≡ true) h.0 h.1)

pub only_fit : {A : Type 0} (p : A → Bool) (x : A) → p x ≡ true → only p x ≡ Some x
only_fit p x fit = rw fit refl

pub only_same : (xs : List ℕ) → bytes_eq xs xs ≡ true
only_same xs = (bytes_eq-Decides xs xs).1 refl

-- ---- a column whose value reads back

module _ {V : Type 0} (of : Data → Option V) (data_of : V → Data) where
  -- what is read is written so
  pub read_as_written : (column : Text) (v : V) → read_as of (λ x. compact_text (data_of x)) column ≡ Some v → column ≡ compact_text (data_of v)
  read_as_written column v e =
      let h = and_then_some (only (λ x. bytes_eq (compact_text (data_of x)) column)) (option_and_then of (read column)) v e in
      let k = only_some (λ x. bytes_eq (compact_text (data_of x)) column) h.0 v h.2 in
      sym ((bytes_eq-Decides _ column).0 k.1)

  -- what was written is read
  pub read_as_back : (v : V) → read (compact_text (data_of v)) ≡ Some (data_of v) → of (data_of v) ≡ Some v → read_as of (λ x. compact_text (data_of x)) (compact_text (data_of v)) ≡ Some v
  read_as_back v back given = rw (back, given, only_same (compact_text (data_of v))) refl

-- ---- lists of texts

each_back : (ts : List Text) → each_of as_str (string_items ts) ≡ Some ts
each_back [] = refl
each_back (t ∷ ts) = rw (each_back ts) refl

texts_back : (ts : List Text) → texts_of (strings ts) ≡ Some ts
texts_back ts = each_back ts

pub texts_written : (column : Text) (ts : List Text) → texts_read column ≡ Some ts → column ≡ texts_text ts
texts_written column ts e = read_as_written texts_of strings column ts e

pub texts_found : (column : Text) (ts : List Text) → column ≡ texts_text ts → texts_read column ≡ Some ts
texts_found column ts e = subst (λ c. texts_read c ≡ Some ts) (sym e) (read_as_back texts_of strings ts (read_compact 1 (strings ts) (omega arith) (strings_plain ts)) (texts_back ts))

-- ---- previous strings

string_back : (t : Text) → is_string t ≡ true → text_of (string t) ≡ Some t
string_back t fit = rw fit refl

string_or_null_back : (o : Option Text) → option_map_or is_string o true ≡ true → string_or_null_of (string_or_null o) ≡ Some o
string_or_null_back None fit = refl
string_or_null_back (Some t) fit = ap (option_map Some) (string_back t fit)

previous_back : (p : Previous) → ArePrevious p → previous_of (previous_data p) ≡ Some p
previous_back p fit = rw (string_or_null_back p.ctx fit.ctx, string_or_null_back p.id fit.id, string_or_null_back p.plural fit.plural) refl

pub previous_written : (column : Text) (p : Previous) → previous_read column ≡ Some p → column ≡ previous_text p
previous_written column p e = read_as_written previous_of previous_data column p e

pub previous_found : (column : Text) (p : Previous) → ArePrevious p → column ≡ previous_text p → previous_read column ≡ Some p
previous_found column p fit e =
    subst (λ c. previous_read c ≡ Some p) (sym e) (read_as_back previous_of previous_data p (read_compact 1 (previous_data p) (omega arith) (previous_plain p)) (previous_back p fit))

-- ---- headers

rebuilt : (translator extracted references flags : List Text) (previous : Previous) (ctx : Option Text) (id : Text) (plural : Option Text) (forms : List Text) (obsolete : Bool)
    → (is_none ctx && is_empty id && is_none plural && not obsolete) ≡ true → length forms ≡ 1
    → header_with (record { translator = translator; extracted = extracted; references = references; flags = flags }) previous (unwrap_or (first_form forms) []) ≡ record {
      translator = translator;
      extracted = extracted;
      references = references;
      flags = flags;
      previous = previous;
      ctx = ctx;
      id = id;
      plural = plural;
      forms = forms;
      obsolete = obsolete;
    }
rebuilt t e r f p None [] None (s ∷ []) false is one = refl
rebuilt t e r f p None [] None (s ∷ []) true is one = absurd cc
rebuilt t e r f p None [] None [] obsolete is one = absurd cc
rebuilt t e r f p None [] None (s ∷ u ∷ forms) obsolete is one = absurd cc
rebuilt t e r f p None [] (Some q) forms obsolete is one = absurd cc
rebuilt t e r f p None (b ∷ id) plural forms obsolete is one = absurd cc
rebuilt t e r f p (Some c) id plural forms obsolete is one = absurd cc

form_fits : (forms : List Text) → is_forms forms ≡ true → is_string (unwrap_or (first_form forms) []) ≡ true
form_fits [] fit = absurd cc
form_fits (s ∷ forms) fit = (and_parts _ _ (and_parts _ _ fit).1).0

header_back : (h : Entry) → IsHeaderEntry h → header_of (header_data h) ≡ Some h
header_back h fit =
    let comments : HeaderComments = record { translator = h.translator; extracted = h.extracted; references = h.references; flags = h.flags } in
    let made : header_of (header_data h) ≡ Some (header_with comments h.previous (header_string h)) =
    rw (each_back h.translator, each_back h.extracted, each_back h.references, each_back h.flags, previous_back h.previous fit.previous, string_back (header_string h) (form_fits h.forms fit.form)) refl in
    made ∙ ap Some (rebuilt h.translator h.extracted h.references h.flags h.previous h.ctx h.id h.plural h.forms h.obsolete fit.plain fit.one_form)

pub header_written : (column : Text) (h : Entry) → header_read column ≡ Some h → column ≡ header_text h
header_written column h e = read_as_written header_of header_data column h e

pub header_found : (column : Text) (h : Entry) → IsHeaderEntry h → column ≡ header_text h → header_read column ≡ Some h
header_found column h fit e =
    subst (λ c. header_read c ≡ Some h) (sym e) (read_as_back header_of header_data h (read_compact 2 (header_data h) (omega arith) (header_plain h)) (header_back h fit))

-- ---- forms

refused : (a b c : Bool) → c ≡ false → (a && b && c) ≡ false
refused true true c is = is
refused true false c is = refl
refused false b c is = refl

-- texts of which one is no string aren't forms
pub no_forms : (texts : List Text) (k : ℕ) (d : Text) → k < length texts → is_string (get_or texts k d) ≡ false → is_forms texts ≡ false
no_forms texts k d within is = refused (nat_le 1 (length texts)) (nat_le (length texts) 8) (list_all is_string texts) (list_all_at is_string texts k d within is)

-- ---- numbers of requests

pub number_written : (column number : Text) → number_read column ≡ Some number → column ≡ number_text number
number_written column number e =
    let h = and_then_some (only (λ u. bytes_eq (number_text u) column)) (parsed column) number e in
    let k = only_some (λ u. bytes_eq (number_text u) column) h.0 number h.2 in
    sym ((bytes_eq-Decides _ column).0 k.1)

pub number_found : (column number : Text) → IsNumber number → column ≡ number_text number → number_read column ≡ Some number
number_found column number fit e =
    let back : number_read (number_text number) ≡ Some number = rw (sym (parses_hyphenated lower number (inl refl) fit.0 fit.1), only_same (number_text number)) refl in
    subst (λ c. number_read c ≡ Some number) (sym e) back
