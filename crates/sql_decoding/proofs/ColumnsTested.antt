-- Columns that pass their tests, and columns that don't.
use Rattle.std.proofs.Common.{◌≡◌, ◌≢◌, ◌<◌, ◌≤◌, ◌↔◌, ℕ, zero, suc, ℤ, pos, negsuc, Bool, true, false, ◌&&◌, List, [], length, Option, Some, None, Result, Ok, Err, IfErr, inl, inr, refl, sym, ap, subst, ◌∙◌, ◌∷◌}
use Rattle.std.specs.Prelude.{All, codes, IsErr, IsErrAnd, MatchOption, String, string_bytes, IsUtf8, is_some, is_ok, nat_lt, ◌⊎◌, ◌==◌, bytes_eq, option_map, option_and_then, if◌then◌else◌, IfOk, OnOk}
use Rattle.std.specs.List.{list_all}
use Rattle.std.specs.Str.{is_utf8}
use Rattle.std.specs.Option.{option_map_or}
use Rattle.std.proofs.lemmas.Bool.{and_parts, and_from, lt-ltb, ltb-true, ltb-false, eqb-true}
use Rattle.std.proofs.lemmas.Bool.Decides.{Decides-eqb}
use Rattle.std.proofs.lemmas.List.{get_or_past}
use Rattle.std.proofs.lemmas.List.Sums.{AllPass-from_list_all, list_all-from_AllPass}
use Rattle.std.proofs.lemmas.Slice.Eq.{bytes_eq-Decides}
use Rattle.std.proofs.lemmas.Str.Ascii.{IsAscii-from_all}
use Rattle.std.proofs.lemmas.Str.{IsUtf8-from_ascii, IsUtf8-from_is_utf8, is_utf8-from_IsUtf8}
use Rattle.serde_json.specs.Data.{Data}
use Rattle.serde_json.specs.Read.{read}
use Rattle.serde_json.specs.Find.{as_null, as_str, at as item_at}
use Rattle.sqlite.specs.declared.types.Value.{Value}
use Rattle.sqlite.specs.declared.types.Value.TheVariants.{Null, Int, Real, Text as Words, Blob}
use Rattle.sqlite.specs.Order.{Row, column}
use Rattle.sqlite.specs.Values.{or_null}
use Rattle.sqlite.specs.declared.error.Error.{Error}
use Rattle.sqlite.specs.declared.error.Error.TheVariants.{SqliteFailure}
use Rattle.sqlite.specs.declared.error.ErrorCode.TheVariants.{OutOfMemory}
use Rattle.po_text.specs.declared.entry.Entry.{Entry}
use Rattle.po_text.specs.declared.entry.Previous.{Previous}
use Rattle.po_text.specs.Strings.{is_string, is_forms}
use Rattle.po_text.specs.Texts.{Text}
use Rattle.plural_expr.specs.Values.{Rule}
use Rattle.plural_expr.specs.declared.fault.PluralFault.{PluralFault}
use Rattle.units.specs.KeyTexts.{HasStrings}
use Rattle.units.specs.Rules.{plural_field, rule_in}
use Rattle.units.specs.Units.{key_text, no_previous}
use Rattle.units.specs.declared.unit.Key.{Key}
use Rattle.units.specs.declared.unit.Role.{Role}
use Rattle.units.specs.declared.unit.Role.TheVariants.{Guest, Translator, Reviewer, Manager}
use Rattle.units.specs.declared.unit.UnitState.{UnitState}
use Rattle.units.specs.declared.unit.UnitState.TheVariants.{Untranslated, NeedsEditing, Translated, Approved}
use Rattle.units.specs.declared.votes.VoteValue.{VoteValue}
use Rattle.units.specs.declared.votes.VoteValue.TheVariants.{For, Against}
use Rattle.request_book.specs.Acts.{IsNumber, vote_number}
use Rattle.request_book.specs.Words.{number_text}
use Rattle.request_book.specs.Fields.{only, text_of}
use Rattle.sql_columns.specs.Faults.{Gives}
use Rattle.sql_columns.specs.declared.fault.RowFault.{RowFault}
use Rattle.sql_columns.specs.declared.fault.RowFault.TheVariants as faults
use Rattle.sql_columns.specs.Numbers.{flag_number, state_number, role_number}
use Rattle.sql_columns.specs.Readings.{string_or_null_of, item_as, previous_of, comments_of, header_with, header_of, read_as, texts_read, previous_read, header_read, number_read, key_parts}
use Rattle.sql_columns.specs.Written.{texts_text, previous_text, header_text, ArePrevious, IsHeaderEntry}
use Rattle.sql_columns.proofs.Keys.{parts_of_text, text_of_parts}
use Rattle.sql_columns.proofs.Readers.{and_then_some, map_some, only_some, only_same, texts_found, texts_written, previous_found, previous_written, header_found, header_written, number_found, number_written}
use Rattle.sql_schema.specs.Keys.{text_at}
use Rattle.sql_meaning.specs.Shown.{shown_header}
use Rattle.sqlite_value.specs.Order.{bytes}
use Rattle.tables.specs.declared.faults.Lost.TheVariants.{Memory}
use Rattle.sql_meaning.specs.Values.{flag_at, state_at, role_at, vote_at, natural_at}
use Rattle.sql_decoding.specs.declared.faults.Failure.{Failure}
use Rattle.sql_decoding.specs.RowTests.{text_passes, text_or_null_passes, integer_passes, holds_text, holds_text_or_null, holds_integer, natural_passes, is_number, has_strings, is_key, are_texts, are_forms, are_previous, is_header, is_rule_of, is_flag, is_state, is_role, is_vote, is_language, IsUnread}
use Rattle.sql_decoding.specs.ShownContexts.{header_of_column}
use Rattle.sql_decoding.proofs.RowsTold.{second_fails, memory_tells}

pub unless : (b : Bool) → (b ≡ true → ⊥) → b ≡ false
unless true never = absurd (never refl)
unless false never = refl

some_unless : {A : Type 0} (o : Option A) → ((x : A) → o ≡ Some x → ⊥) → is_some o ≡ false
some_unless (Some x) never = absurd (never x refl)
some_unless None never = refl

map_unless : {A : Type 0} (p : A → Bool) (o : Option A) → ((x : A) → o ≡ Some x → p x ≡ true → ⊥) → option_map_or p o false ≡ false
map_unless p (Some x) never = unless (p x) (never x refl)
map_unless p None never = refl

-- ---- why a column gave no value

-- a value that the reader would have given
pub not_given : {V : Type 0} (fault : RowFault) → fault ≢ faults.Memory → (v : V) → Gives (Err fault) v → ⊥
not_given fault other v (inl e) = absurd cc
not_given fault other v (inr e) = other cc

module _ {X : Type 0} (r : Result X Failure) (b : Bool) where
  pub fault_tells : (fault : RowFault) → IsErr r × IsErrAnd r (λ failure. (failure.lost ≡ Memory) ↔ (fault ≡ faults.Memory)) → (fault ≢ faults.Memory → b ≡ false) → IfErr r (IsUnread b)
  fault_tells fault h fails = by r h
    where
      by : (s : Result X Failure) → IsErr s × IsErrAnd s (λ failure. (failure.lost ≡ Memory) ↔ (fault ≡ faults.Memory)) → IfErr s (IsUnread b)
      by (Ok x) g = tt
      by (Err failure) g = λ other. fails (λ memory. memory_tells failure (g.1.1 memory) other)

-- ---- a column that isn't read

module _ (row : Row) (at : ℕ) (e : Error) (others : e ≢ SqliteFailure OutOfMemory) where
  beyond : length row ≤ at → column row at ≡ Null
  beyond past = get_or_past row at Null past

  no_text : (p : Text → Bool) (v : Value) → ¬ ((t : Text) × (v ≡ Words t) × IsUtf8 t) → text_passes p v ≡ false
  no_text p Null never = refl
  no_text p (Int n) never = refl
  no_text p (Real x) never = refl
  no_text p (Words t) never = unless (is_utf8 t && p t) (λ passes. never (t, refl, IsUtf8-from_is_utf8 t (and_parts _ _ passes).0))
  no_text p (Blob b) never = refl

  no_text_or_null : (p : Text → Bool) (v : Value) → ¬ ((v ≡ Null) ⊎ ((t : Text) × (v ≡ Words t) × IsUtf8 t)) → text_or_null_passes p v ≡ false
  no_text_or_null p Null never = absurd (never (inl refl))
  no_text_or_null p (Int n) never = refl
  no_text_or_null p (Real x) never = refl
  no_text_or_null p (Words t) never = unless (is_utf8 t && p t) (λ passes. never (inr (t, refl, IsUtf8-from_is_utf8 t (and_parts _ _ passes).0)))
  no_text_or_null p (Blob b) never = refl

  no_integer : (p : ℤ → Bool) (v : Value) → ¬ ((n : ℤ) × (v ≡ Int n)) → integer_passes p v ≡ false
  no_integer p Null never = refl
  no_integer p (Int n) never = absurd (never (n, refl))
  no_integer p (Real x) never = refl
  no_integer p (Words t) never = refl
  no_integer p (Blob b) never = refl

  by_place : {P : Type 0} → (at < length row → P) → (length row ≤ at → P) → P
  by_place {P} within past = by (nat_lt at (length row)) refl
    where
      by : (b : Bool) → nat_lt at (length row) ≡ b → P
      by true is = within (ltb-true at (length row) is)
      by false is = past (ltb-false at (length row) is)

  pub text_unread : (e ≢ SqliteFailure OutOfMemory → at < length row → ¬ ((t : Text) × (column row at ≡ Words t) × IsUtf8 t)) → (p : Text → Bool) → holds_text p at row ≡ false
  text_unread never p = by_place (λ within. no_text p (column row at) (never others within)) (λ past. ap (text_passes p) (beyond past))

  pub text_or_null_unread : (e ≢ SqliteFailure OutOfMemory → at < length row → ¬ ((column row at ≡ Null) ⊎ ((t : Text) × (column row at ≡ Words t) × IsUtf8 t))) → (p : Text → Bool) → holds_text_or_null p at row ≡ false
  text_or_null_unread never p = unless (holds_text_or_null p at row) (λ holds.
      let parts = and_parts _ _ holds in
      let fails = no_text_or_null p (column row at) (never others (ltb-true at (length row) parts.0)) in
      absurd (let t : true ≡ false = sym parts.1 ∙ fails in cc))

  pub integer_unread : (e ≢ SqliteFailure OutOfMemory → at < length row → ¬ ((n : ℤ) × (column row at ≡ Int n))) → (p : ℤ → Bool) → holds_integer p at row ≡ false
  integer_unread never p = by_place (λ within. no_integer p (column row at) (never others within)) (λ past. ap (integer_passes p) (beyond past))

pub or_null_is : {A : Type 0} (v : Value) (found : Option (String A)) → MatchOption found (v ≡ Null) (λ text. (v ≢ Null) × (v ≡ Words (string_bytes text))) → v ≡ or_null Words (option_map string_bytes found)
or_null_is v (Some text) is = is.1
or_null_is v None is = is

-- ---- a column that is read

module _ (at : ℕ) (row : Row) (text : Text) (holds : column row at ≡ Words text) (p : Text → Bool) where
  pub text_stands : IsUtf8 text → p text ≡ true → holds_text p at row ≡ true
  text_stands utf8 passes = ap (text_passes p) holds ∙ and_from _ _ (is_utf8-from_IsUtf8 text utf8) passes

  pub text_falls : p text ≡ false → holds_text p at row ≡ false
  text_falls fails = ap (text_passes p) holds ∙ second_fails (is_utf8 text) (p text) fails

  pub some_stands : at < length row → IsUtf8 text → p text ≡ true → holds_text_or_null p at row ≡ true
  some_stands within utf8 passes = and_from _ _ (lt-ltb at (length row) within) (ap (text_or_null_passes p) holds ∙ and_from _ _ (is_utf8-from_IsUtf8 text utf8) passes)

  pub some_falls : p text ≡ false → holds_text_or_null p at row ≡ false
  some_falls fails = second_fails (nat_lt at (length row)) _ (ap (text_or_null_passes p) holds ∙ second_fails (is_utf8 text) (p text) fails)

pub null_stands : (at : ℕ) (row : Row) → at < length row → column row at ≡ Null → (p : Text → Bool) → holds_text_or_null p at row ≡ true
null_stands at row within holds p = and_from _ _ (lt-ltb at (length row) within) (ap (text_or_null_passes p) holds)

module _ (at : ℕ) (row : Row) (n : ℤ) (holds : column row at ≡ Int n) (p : ℤ → Bool) where
  pub integer_is : (b : Bool) → p n ≡ b → holds_integer p at row ≡ b
  integer_is b is = ap (integer_passes p) holds ∙ is

-- ---- texts

module _ (text : Text) where
  pub texts_stand : (ts : List Text) → text ≡ texts_text ts → are_texts text ≡ true
  unfolding are_texts
  texts_stand ts is = ap is_some (texts_found text ts is)

  pub texts_fall : ((ts : List Text) → text ≡ texts_text ts → ⊥) → are_texts text ≡ false
  unfolding are_texts
  texts_fall never = some_unless (texts_read text) (λ ts is. never ts (texts_written text ts is))

  pub forms_stand : (forms : List Text) → is_forms forms ≡ true → text ≡ texts_text forms → are_forms text ≡ true
  unfolding are_forms
  forms_stand forms fits is = ap (λ o. option_map_or is_forms o false) (texts_found text forms is) ∙ fits

  pub forms_fall : ((forms : List Text) → is_forms forms ≡ true → text ≡ texts_text forms → ⊥) → are_forms text ≡ false
  unfolding are_forms
  forms_fall never = map_unless is_forms (texts_read text) (λ ts is fits. never ts fits (texts_written text ts is))

  pub key_stands : (key : Key) → HasStrings key → text ≡ key_text key → is_key text ≡ true
  unfolding is_key
  key_stands key fits is = ap has_strings (ap key_parts is ∙ parts_of_text key fits) ∙ and_from _ _ fits.ctx fits.id

  pub key_falls : ((key : Key) → HasStrings key → text ≡ key_text key → ⊥) → is_key text ≡ false
  unfolding is_key
  key_falls never = unless (is_key text) (λ h. never (key_parts text) (record { ctx = (and_parts _ _ h).0; id = (and_parts _ _ h).1 }) (sym (text_of_parts text)))

  pub previous_stand : (previous : Previous) → ArePrevious previous → text ≡ previous_text previous → are_previous text ≡ true
  unfolding are_previous
  previous_stand previous fits is = ap is_some (previous_found text previous fits is)

  pub header_stands : (header : Entry) → IsHeaderEntry header → text ≡ header_text header → is_header text ≡ true
  unfolding is_header
  header_stands header fits is = ap is_some (header_found text header fits is)

  pub number_stands : (number : Text) → IsNumber number → text ≡ number_text number → is_number text ≡ true
  unfolding is_number
  number_stands number fits is =
      ap (λ o. option_map_or (λ (n : Text). (length n == 16) && list_all (λ b. nat_lt b 256) n) o false) (number_found text number fits is)
      ∙ and_from _ _ ((Decides-eqb (length number) 16).1 fits.0) (list_all-from_AllPass (λ b. nat_lt b 256) number (λ k d within. lt-ltb _ 256 (fits.1 k d within)))

  pub number_falls : ((number : Text) → IsNumber number → text ≡ number_text number → ⊥) → is_number text ≡ false
  unfolding is_number
  number_falls never = map_unless (λ n. (length n == 16) && list_all (λ b. nat_lt b 256) n) (number_read text) (λ n is passes.
      let parts = and_parts _ _ passes in
      let small = AllPass-from_list_all (λ b. nat_lt b 256) n parts.1 in
      never n (eqb-true (length n) 16 parts.0, λ k d within. ltb-true _ 256 (small k d within)) (number_written text n is))

  module _ (header : Entry) where
    pub rule_stands : (rule : Rule) → plural_field (Some header) ≡ Some text → rule_in (Some header) ≡ Ok rule → is_rule_of header text ≡ true
    unfolding is_rule_of
    rule_stands rule field is = and_from _ _ (ap (λ o. option_map_or (bytes_eq text) o false) field ∙ only_same text) (ap is_ok is)

    pub rule_falls : ((rule : Rule) → plural_field (Some header) ≡ Some text → rule_in (Some header) ≡ Ok rule → ⊥) → is_rule_of header text ≡ false
    unfolding is_rule_of
    rule_falls never = unless (is_rule_of header text) (λ h. by (plural_field (Some header)) refl (rule_in (Some header)) refl (and_parts _ _ h).0 (and_parts _ _ h).1)
      where
        by : (field : Option Text) → plural_field (Some header) ≡ field → (rule : Result Rule (Option PluralFault)) → rule_in (Some header) ≡ rule
            → option_map_or (bytes_eq text) field false ≡ true → is_ok rule ≡ true → ⊥
        by (Some t) is (Ok rule) reads same fine = never rule (is ∙ ap Some (sym ((bytes_eq-Decides text t).0 same))) reads
        by (Some t) is (Err fault) reads same fine = absurd cc
        by None is rule reads same fine = absurd cc

-- ---- what is read keeps its limits

text_fits : (d : Data) (t : Text) → text_of d ≡ Some t → is_string t ≡ true
text_fits d t e = let h = and_then_some (only is_string) (as_str d) t e in (only_some is_string h.0 t h.2).1

string_or_null_fits : (d : Data) (o : Option Text) → string_or_null_of d ≡ Some o → option_map_or is_string o true ≡ true
string_or_null_fits d o e = by (is_some (as_null d)) refl
  where
    by : (b : Bool) → is_some (as_null d) ≡ b → option_map_or is_string o true ≡ true
    by true null =
        let h : Some None ≡ Some o = sym (ap (λ b. if b then Some None else option_map Some (text_of d)) null) ∙ e in
        let none : None ≡ o = cc in
        ap (λ x. option_map_or is_string x true) (sym none)
    by false some =
        let h = map_some Some (text_of d) o (sym (ap (λ b. if b then Some None else option_map Some (text_of d)) some) ∙ e) in
        ap (λ x. option_map_or is_string x true) (sym h.2) ∙ text_fits d h.0 h.1

item_fits : (i : ℕ) (d : Data) (o : Option Text) → item_as string_or_null_of i d ≡ Some o → option_map_or is_string o true ≡ true
item_fits i d o e = let h = and_then_some string_or_null_of (item_at i d) o e in string_or_null_fits h.0 o h.2

previous_of_fits : (d : Data) (p : Previous) → previous_of d ≡ Some p → ArePrevious p
previous_of_fits d p e =
    let c = and_then_some _ (item_as string_or_null_of 0 d) p e in
    let i = and_then_some _ (item_as string_or_null_of 1 d) p c.2 in
    let q = and_then_some _ (item_as string_or_null_of 2 d) p i.2 in
    let is : record { ctx = c.0; id = i.0; plural = q.0 } ≡ p = let h = q.2 in cc in
    subst ArePrevious is (record { ctx = item_fits 0 d c.0 c.1; id = item_fits 1 d i.0 i.1; plural = item_fits 2 d q.0 q.1 })

header_of_fits : (d : Data) (header : Entry) → header_of d ≡ Some header → IsHeaderEntry header
header_of_fits d header e =
    let c = and_then_some _ (comments_of d) header e in
    let p = and_then_some _ (item_as previous_of 4 d) header c.2 in
    let f = and_then_some _ (item_as text_of 5 d) header p.2 in
    let previous = and_then_some previous_of (item_at 4 d) p.0 p.1 in
    let form = and_then_some text_of (item_at 5 d) f.0 f.1 in
    let is : header_with c.0 p.0 f.0 ≡ header = let h = f.2 in cc in
    subst IsHeaderEntry is (record { plain = refl; one_form = refl; form = rw (text_fits form.0 f.0 form.2) refl; previous = previous_of_fits previous.0 p.0 previous.2 })

read_as_fits : {V : Type 0} (of : Data → Option V) (written : V → Text) (column : Text) (v : V) → read_as of written column ≡ Some v → (d : Data) × (of d ≡ Some v)
read_as_fits {V} of written column v e =
    let h = and_then_some (only (λ x. bytes_eq (written x) column)) (option_and_then of (read column)) v e in
    let k = only_some (λ x. bytes_eq (written x) column) h.0 v h.2 in
    let d = and_then_some of (read column) h.0 h.1 in
    (d.0, d.2 ∙ ap Some k.0)

module _ (text : Text) where
  pub previous_fall : ((previous : Previous) → ArePrevious previous → text ≡ previous_text previous → ⊥) → are_previous text ≡ false
  unfolding are_previous
  previous_fall never = some_unless (previous_read text) (λ p is. let d = read_as_fits previous_of previous_text text p is in never p (previous_of_fits d.0 p d.1) (previous_written text p is))

  pub header_falls : ((header : Entry) → IsHeaderEntry header → text ≡ header_text header → ⊥) → is_header text ≡ false
  unfolding is_header
  header_falls never = some_unless (header_read text) (λ h is. let d = read_as_fits header_of header_text text h is in never h (header_of_fits d.0 h d.1) (header_written text h is))

-- ---- numbers

pub flag_stands : (n : ℤ) (flag : Bool) → n ≡ flag_number flag → is_flag n ≡ true
flag_stands n false is = ap is_flag is
flag_stands n true is = ap is_flag is

pub flag_falls : (n : ℤ) → ((flag : Bool) → n ≡ flag_number flag → ⊥) → is_flag n ≡ false
flag_falls (pos zero) never = absurd (never false refl)
flag_falls (pos (suc zero)) never = absurd (never true refl)
flag_falls (pos (suc (suc n))) never = refl
flag_falls (negsuc n) never = refl

pub state_stands : (n : ℤ) (state : UnitState) → n ≡ state_number state → is_state n ≡ true
state_stands n Untranslated is = ap is_state is
state_stands n NeedsEditing is = ap is_state is
state_stands n Translated is = ap is_state is
state_stands n Approved is = ap is_state is

pub state_falls : (n : ℤ) → ((state : UnitState) → n ≡ state_number state → ⊥) → is_state n ≡ false
state_falls (pos zero) never = absurd (never Untranslated refl)
state_falls (pos (suc zero)) never = absurd (never NeedsEditing refl)
state_falls (pos (suc (suc zero))) never = absurd (never Translated refl)
state_falls (pos (suc (suc (suc zero)))) never = absurd (never Approved refl)
state_falls (pos (suc (suc (suc (suc n))))) never = refl
state_falls (negsuc n) never = refl

pub role_stands : (n : ℤ) (role : Role) → role_number role ≡ Some n → is_role n ≡ true
role_stands n Guest is = absurd cc
role_stands n Translator is = let e : pos 1 ≡ n = cc in ap is_role (sym e)
role_stands n Reviewer is = let e : pos 2 ≡ n = cc in ap is_role (sym e)
role_stands n Manager is = let e : pos 3 ≡ n = cc in ap is_role (sym e)

pub role_falls : (n : ℤ) → ((role : Role) → role_number role ≡ Some n → ⊥) → is_role n ≡ false
role_falls (pos zero) never = refl
role_falls (pos (suc zero)) never = absurd (never Translator refl)
role_falls (pos (suc (suc zero))) never = absurd (never Reviewer refl)
role_falls (pos (suc (suc (suc zero)))) never = absurd (never Manager refl)
role_falls (pos (suc (suc (suc (suc n))))) never = refl
role_falls (negsuc n) never = refl

pub vote_stands : (n : ℤ) (vote : VoteValue) → n ≡ vote_number (Some vote) → is_vote n ≡ true
vote_stands n For is = ap is_vote is
vote_stands n Against is = ap is_vote is

pub vote_falls : (n : ℤ) → ((vote : VoteValue) → n ≡ vote_number (Some vote) → ⊥) → is_vote n ≡ false
vote_falls (pos zero) never = refl
vote_falls (pos (suc zero)) never = absurd (never For refl)
vote_falls (pos (suc (suc n))) never = refl
vote_falls (negsuc zero) never = absurd (never Against refl)
vote_falls (negsuc (suc n)) never = refl

module _ (p : ℕ → Bool) where
  pub natural_stands : (n : ℤ) (k : ℕ) → p k ≡ true → n ≡ pos k → natural_passes p n ≡ true
  natural_stands n k fits is = ap (natural_passes p) is ∙ fits

  pub natural_falls : (n : ℤ) → ((k : ℕ) → p k ≡ true → n ≡ pos k → ⊥) → natural_passes p n ≡ false
  natural_falls (pos k) never = unless (p k) (λ fits. never k fits refl)
  natural_falls (negsuc k) never = refl

-- ---- what a reader of a column tells of it

module _ {V : Type 0} (r : Result V RowFault) where
  pub err_says : (P : RowFault → Type 0) → ((fault : RowFault) → P fault) → IfErr r P
  err_says P says = by r
    where
      by : (s : Result V RowFault) → IfErr s P
      by (Ok v) = tt
      by (Err fault) = says fault

  pub both_tell : (P Q : V → Type 0) {R : Type 0} → ((v : V) → P v → Q v → R) → IfOk r P → IfOk r Q → OnOk r R
  both_tell P Q {R} tells is fits = by r is fits
    where
      by : (s : Result V RowFault) → IfOk s P → IfOk s Q → OnOk s R
      by (Ok v) p q = tells v p q
      by (Err fault) p q = tt

  pub ok_tells : (P : V → Type 0) {R : Type 0} → ((v : V) → P v → R) → IfOk r P → OnOk r R
  ok_tells P tells is = both_tell P P (λ v p q. tells v p) is is

  -- it fails only where no value would be given
  pub err_tells : (b : Bool) → (((v : V) → r ≡ Ok v → ⊥) → b ≡ false) → IfErr r (λ fault. b ≡ false)
  err_tells b fails = by r refl
    where
      by : (s : Result V RowFault) → r ≡ s → IfErr s (λ fault. b ≡ false)
      by (Ok v) is = tt
      by (Err fault) is = fails (λ v given. absurd (let e : Err fault ≡ Ok v = sym is ∙ given in cc))

  pub both_ok : (P Q R : V → Type 0) → ((v : V) → P v → Q v → R v) → IfOk r P → IfOk r Q → IfOk r R
  both_ok P Q R tells is fits = by r is fits
    where
      by : (s : Result V RowFault) → IfOk s P → IfOk s Q → IfOk s R
      by (Ok v) p q = tells v p q
      by (Err fault) p q = tt

  -- but for want of memory
  pub read_fails : (b : Bool) → (((v : V) → Gives r v → ⊥) → b ≡ false) → IfErr r (λ fault. fault ≢ faults.Memory → b ≡ false)
  read_fails b fails = by r refl
    where
      by : (s : Result V RowFault) → r ≡ s → IfErr s (λ fault. fault ≢ faults.Memory → b ≡ false)
      by (Ok v) is = tt
      by (Err fault) is = λ other. fails (λ v given. not_given fault other v (subst (λ s. Gives s v) is given))

module _ (n : ℤ) (at : ℕ) (row : Row) (holds : column row at ≡ Int n) where
  shown_by : {V : Type 0} (f : ℕ → Row → V) (m : ℤ) → n ≡ m → f 0 (column row at ∷ []) ≡ f 0 (Int m ∷ [])
  shown_by f m is = ap (λ value. f 0 (value ∷ [])) (holds ∙ ap Int is)

  pub flag_shown : (flag : Bool) → n ≡ flag_number flag → flag ≡ flag_at at row
  flag_shown false is = sym (shown_by flag_at (flag_number false) is)
  flag_shown true is = sym (shown_by flag_at (flag_number true) is)

  pub state_shown : (state : UnitState) → n ≡ state_number state → state ≡ state_at at row
  state_shown Untranslated is = sym (shown_by state_at (state_number Untranslated) is)
  state_shown NeedsEditing is = sym (shown_by state_at (state_number NeedsEditing) is)
  state_shown Translated is = sym (shown_by state_at (state_number Translated) is)
  state_shown Approved is = sym (shown_by state_at (state_number Approved) is)

  pub role_shown : (role : Role) → role_number role ≡ Some n → role ≡ role_at at row
  role_shown Guest is = absurd cc
  role_shown Translator is = sym (shown_by role_at (pos 1) (let e : pos 1 ≡ n = cc in sym e))
  role_shown Reviewer is = sym (shown_by role_at (pos 2) (let e : pos 2 ≡ n = cc in sym e))
  role_shown Manager is = sym (shown_by role_at (pos 3) (let e : pos 3 ≡ n = cc in sym e))

  pub vote_shown : (vote : VoteValue) → n ≡ vote_number (Some vote) → vote ≡ vote_at at row
  vote_shown For is = sym (shown_by vote_at (vote_number (Some For)) is)
  vote_shown Against is = sym (shown_by vote_at (vote_number (Some Against)) is)

  pub natural_shown : (k : ℕ) → n ≡ pos k → k ≡ natural_at at row
  natural_shown k is = sym (shown_by natural_at (pos k) is)

-- ---- a language's columns

module _ (row : Row) (header plural : Text) (headed : column row 0 ≡ Words header) (ruled : column row 1 ≡ Words plural) where
  named : text_at 0 row ≡ header
  named = ap bytes headed

  pub language_stands : IsUtf8 header → IsUtf8 plural → (is_header header && is_rule_of (header_of_column header) plural) ≡ true → is_language row ≡ true
  language_stands first second passes =
      let parts = and_parts _ _ passes in
      and_from _ _ (text_stands 0 row header headed is_header first parts.0)
      (text_stands 1 row plural ruled (is_rule_of (shown_header row)) second (ap (λ t. is_rule_of (header_of_column t) plural) named ∙ parts.1))

  pub language_passes : is_language row ≡ true → (is_header header && is_rule_of (header_of_column header) plural) ≡ true
  language_passes stands =
      let parts = and_parts _ _ stands in
      let first = and_parts _ _ (sym (ap (text_passes is_header) headed) ∙ parts.0) in
      let second = and_parts _ _ (sym (ap (text_passes (is_rule_of (shown_header row))) ruled) ∙ parts.1) in
      and_from _ _ first.1 (sym (ap (λ t. is_rule_of (header_of_column t) plural) named) ∙ second.1)

-- ---- columns that most rows have

all_small : (bs : List ℕ) → list_all (λ b. nat_lt b 128) bs ≡ true → All (λ b. b < 128) bs
all_small bs small = let each = AllPass-from_list_all (λ b. nat_lt b 128) bs small in λ k d within. ltb-true _ 128 (each k d within)

pub no_texts_stand : (at : ℕ) (row : Row) → column row at ≡ Words (codes "[]") → holds_text are_texts at row ≡ true
no_texts_stand at row holds = text_stands at row (codes "[]") holds are_texts (IsUtf8-from_ascii (codes "[]") (IsAscii-from_all (codes "[]") (all_small (codes "[]") refl))) (texts_stand (codes "[]") [] refl)

pub nothing_previous_stands : (at : ℕ) (row : Row) → column row at ≡ Words (codes "[null,null,null]") → holds_text are_previous at row ≡ true
nothing_previous_stands at row holds =
    text_stands at row (codes "[null,null,null]") holds are_previous (IsUtf8-from_ascii (codes "[null,null,null]") (IsAscii-from_all (codes "[null,null,null]") (all_small (codes "[null,null,null]") refl)))
    (previous_stand (codes "[null,null,null]") no_previous (record { ctx = refl; id = refl; plural = refl }) refl)
