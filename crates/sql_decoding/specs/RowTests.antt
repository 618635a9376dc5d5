-- Which rows stand for values: each column that is read holds what is written for a value within its limits. The rows are as reads of whole
-- tables, and looks at a unit, show them. This project's own rule; the columns are those of the tables' format.
use Rattle.std.specs.Prelude.{◌≡◌, ◌≢◌, ◌&&◌, ◌==◌, ℕ, zero, suc, ℤ, pos, negsuc, Bool, true, false, List, length, Some, is_some, is_ok, nat_lt, bytes_eq}
use Rattle.std.specs.Str.{is_utf8}
use Rattle.std.specs.Option.{option_map_or}
use Rattle.std.specs.List.{list_all}
use Rattle.sqlite.specs.declared.types.Value.{Value}
use Rattle.sqlite.specs.declared.types.Value.TheVariants.{Null, Int, Real, Text as Words, Blob}
use Rattle.sqlite.specs.Order.{Row, column}
use Rattle.po_text.specs.declared.entry.Entry.{Entry}
use Rattle.po_text.specs.Strings.{is_string, is_forms}
use Rattle.po_text.specs.Texts.{Text}
use Rattle.po_text.specs.Valid.{IsValid}
use Rattle.units.specs.Limits.{is_name, is_lang, is_revision, is_accept_at}
use Rattle.units.specs.Rules.{plural_field, rule_in}
use Rattle.units.specs.declared.unit.Key.{Key}
use Rattle.sql_columns.specs.Readings.{number_read, key_parts, texts_read, previous_read, header_read}
use Rattle.sql_meaning.specs.Shown.{shown_header}
use Rattle.sql_statements.specs.declared.whole_office.UnitTables.{UnitTables}
use Rattle.sql_statements.specs.declared.whole_office.WholeOffice.{WholeOffice}
use Rattle.sql_statements.specs.declared.unit_rows.SuggestionRows.{SuggestionRows}
use Rattle.sql_statements.specs.declared.unit_rows.UnitRows.{UnitRows}
use Rattle.sql_statements.specs.declared.unit_rows.ContextRows.{ContextRows}
use Rattle.sql_meaning.specs.OfficeShown.{template_shown}
use Rattle.tables.specs.declared.faults.Lost.TheVariants.{Memory}
use Rattle.sql_decoding.specs.declared.faults.Failure.{Failure}

-- ---- what a column holds

-- a text of UTF-8 that passes a test
abbrev pub text_passes : (Text → Bool) → Value → Bool
text_passes p Null = false
text_passes p (Int n) = false
text_passes p (Real x) = false
text_passes p (Words text) = is_utf8 text && p text
text_passes p (Blob b) = false

abbrev pub text_or_null_passes : (Text → Bool) → Value → Bool
text_or_null_passes p Null = true
text_or_null_passes p (Int n) = false
text_or_null_passes p (Real x) = false
text_or_null_passes p (Words text) = is_utf8 text && p text
text_or_null_passes p (Blob b) = false

abbrev pub integer_passes : (ℤ → Bool) → Value → Bool
integer_passes p Null = false
integer_passes p (Int n) = p n
integer_passes p (Real x) = false
integer_passes p (Words text) = false
integer_passes p (Blob b) = false

abbrev pub holds_text : (Text → Bool) → ℕ → Row → Bool
holds_text p place row = text_passes p (column row place)

-- there is such a column, which a row's end would tell as null
abbrev pub holds_text_or_null : (Text → Bool) → ℕ → Row → Bool
holds_text_or_null p place row = nat_lt place (length row) && text_or_null_passes p (column row place)

abbrev pub holds_integer : (ℤ → Bool) → ℕ → Row → Bool
holds_integer p place row = integer_passes p (column row place)

-- ---- texts

abbrev pub any_text : Text → Bool
any_text text = true

-- the text of a number, which has 16 bytes
unfoldable pub is_number : Text → Bool
is_number text = option_map_or (λ number. (length number == 16) && list_all (λ b. nat_lt b 256) number) (number_read text) false

-- the context, if there is one, and the msgid are strings of a catalogue
abbrev pub has_strings : Key → Bool
has_strings key = option_map_or is_string key.ctx true && is_string key.id

unfoldable pub is_key : Text → Bool
is_key text = has_strings (key_parts text)

-- a compact JSON list of texts
unfoldable pub are_texts : Text → Bool
are_texts text = is_some (texts_read text)

-- of 1 to 8 strings of a catalogue
unfoldable pub are_forms : Text → Bool
are_forms text = option_map_or is_forms (texts_read text) false

-- of a context, a msgid and a msgid_plural, each a string of a catalogue or null
unfoldable pub are_previous : Text → Bool
are_previous text = is_some (previous_read text)

-- of a header's comments, flags, previous strings and string
unfoldable pub is_header : Text → Bool
is_header text = is_some (header_read text)

-- the value of the header's field Plural-Forms, which is a plural rule
unfoldable pub is_rule_of : Entry → Text → Bool
is_rule_of header text = option_map_or (bytes_eq text) (plural_field (Some header)) false && is_ok (rule_in (Some header))

-- ---- numbers

abbrev pub natural_passes : (ℕ → Bool) → ℤ → Bool
natural_passes p (pos n) = p n
natural_passes p (negsuc n) = false

-- 0 or 1
abbrev pub is_flag : ℤ → Bool
is_flag (pos zero) = true
is_flag (pos (suc zero)) = true
is_flag (pos (suc (suc n))) = false
is_flag (negsuc n) = false

-- 0 to 3
abbrev pub is_state : ℤ → Bool
is_state (pos zero) = true
is_state (pos (suc zero)) = true
is_state (pos (suc (suc zero))) = true
is_state (pos (suc (suc (suc zero)))) = true
is_state (pos (suc (suc (suc (suc n))))) = false
is_state (negsuc n) = false

-- 1 to 3
abbrev pub is_role : ℤ → Bool
is_role (pos zero) = false
is_role (pos (suc zero)) = true
is_role (pos (suc (suc zero))) = true
is_role (pos (suc (suc (suc zero)))) = true
is_role (pos (suc (suc (suc (suc n))))) = false
is_role (negsuc n) = false

-- -1 or 1
abbrev pub is_vote : ℤ → Bool
is_vote (pos zero) = false
is_vote (pos (suc zero)) = true
is_vote (pos (suc (suc n))) = false
is_vote (negsuc zero) = true
is_vote (negsuc (suc n)) = false

abbrev pub is_status : ℤ → Bool
is_status = natural_passes (λ n. nat_lt n 65536)

-- of nothing or more
abbrev pub is_count : ℤ → Bool
is_count (pos n) = true
is_count (negsuc n) = false

-- ---- rows

-- name
abbrev pub is_domain_row : Row → Bool
is_domain_row = holds_text is_name 0

-- role, name
abbrev pub is_member_row : Row → Bool
is_member_row row = holds_integer is_role 0 row && holds_text is_name 1 row

-- schema, and the six values of the policy
abbrev pub is_policy_row : Row → Bool
is_policy_row row =
    holds_integer is_flag 1 row && (holds_integer is_flag 2 row && (holds_integer is_flag 3 row
    && (holds_integer (natural_passes is_accept_at) 4 row && (holds_integer is_flag 5 row && holds_integer is_flag 6 row))))

-- plural, extracted, refs, flags
abbrev pub is_entry : Row → Bool
is_entry row = holds_text_or_null is_string 0 row && (holds_text are_texts 1 row && (holds_text are_texts 2 row && holds_text are_texts 3 row))

-- with the key behind them
abbrev pub is_entry_row : Row → Bool
is_entry_row row = holds_text is_key 4 row && is_entry row

-- header, plural
abbrev pub is_language : Row → Bool
is_language row = holds_text is_header 0 row && holds_text (is_rule_of (shown_header row)) 1 row

-- with the code behind them
abbrev pub is_language_row : Row → Bool
is_language_row row = holds_text is_lang 2 row && is_language row

-- state, obsolete, revision
abbrev pub has_unit_numbers : Row → Bool
has_unit_numbers row = holds_integer is_state 2 row && (holds_integer is_flag 3 row && holds_integer (natural_passes is_revision) 4 row)

-- plural, forms, comment, previous
abbrev pub has_unit_texts : Row → Bool
has_unit_texts row = holds_text_or_null is_string 0 row && (holds_text are_forms 1 row && (holds_text are_texts 5 row && holds_text are_previous 6 row))

abbrev pub is_unit : Row → Bool
is_unit row = has_unit_numbers row && has_unit_texts row

-- the language and the key
abbrev pub has_place : Row → Bool
has_place row = holds_text is_lang 7 row && holds_text is_key 8 row

abbrev pub is_unit_row : Row → Bool
is_unit_row row = has_place row && is_unit row

-- number, place, suggester, forms
abbrev pub is_suggestion : Row → Bool
is_suggestion row = holds_text is_number 0 row && (holds_text is_name 2 row && holds_text are_forms 3 row)

-- with the unit's language and key behind them
abbrev pub is_suggestion_row : Row → Bool
is_suggestion_row row = (holds_text any_text 4 row && holds_text any_text 5 row) && is_suggestion row

-- voter, value
abbrev pub is_vote_on : Row → Bool
is_vote_on row = holds_text is_name 0 row && holds_integer is_vote 1 row

-- with the suggestion's number behind them
abbrev pub is_vote_row : Row → Bool
is_vote_row row = holds_text any_text 2 row && is_vote_on row

-- content, status, body
abbrev pub is_record : Row → Bool
is_record row = holds_text any_text 0 row && (holds_integer is_status 1 row && holds_text any_text 2 row)

-- with the number behind them
abbrev pub is_record_row : Row → Bool
is_record_row row = holds_text is_number 3 row && is_record row

-- untranslated, needing editing, translated, approved, read-only, suggestions, obsolete
abbrev pub is_tally : Row → Bool
is_tally row =
    holds_integer is_count 3 row && (holds_integer is_count 1 row && (holds_integer is_count 6 row
    && (holds_integer is_count 4 row && (holds_integer is_count 5 row && (holds_integer is_count 2 row && holds_integer is_count 0 row)))))

-- ---- whole tables

abbrev pub are_unit_tables : UnitTables → Bool
are_unit_tables rows =
    (list_all is_vote_row rows.votes.items && list_all is_suggestion_row rows.suggestions.items) && list_all is_unit_row rows.units.items

-- The entries of a template, which are a valid catalogue.
pub record IsTemplate (rows : List Row) : Type 0 where
  pub each : list_all is_entry_row rows ≡ true
  pub valid : IsValid (template_shown rows)

pub record AreOfficeRows (rows : WholeOffice) : Type 0 where
  pub members : list_all is_member_row rows.office.team.items ≡ true
  pub policy : option_map_or is_policy_row rows.office.policy true ≡ true
  pub template : IsTemplate rows.office.template.items
  pub languages : list_all is_language_row rows.office.languages.items ≡ true
  pub units : are_unit_tables rows.units ≡ true

-- ---- a look at a unit

abbrev pub is_suggestion_with_votes : SuggestionRows → Bool
is_suggestion_with_votes rows = list_all is_vote_on rows.votes.items && is_suggestion rows.suggestion

abbrev pub are_unit_rows : UnitRows → Bool
are_unit_rows rows =
    option_map_or (λ unit. (list_all is_suggestion_with_votes rows.suggestions.items && is_unit unit) && option_map_or is_entry rows.entry true) rows.unit true

-- a language wants a policy beside it
abbrev pub are_context_rows : ContextRows → Bool
are_context_rows rows =
    option_map_or (λ language. option_map_or (λ policy.
    is_policy_row policy && (option_map_or (holds_integer is_role 0) rows.office.role true && (is_language language && are_unit_rows rows.unit))) rows.office.policy false)
    rows.office.language true

-- ---- failures

-- but for want of memory, a failure tells that a test fails
abbrev pub IsUnread : Bool → Failure → Type 0
IsUnread stands failure = failure.lost ≢ Memory → stands ≡ false
