-- What is written for a unit, a suggestion and a vote reads back as it.
use Rattle.std.proofs.Common.{◌≡◌, ℕ, List, [], ◌∷◌, length, Bool, true, false, Option, Some, None, unwrap_or, refl, sym, ap, arith, ◌∙◌}
use Rattle.std.proofs.lemmas.Bool.{and_from}
use Rattle.sqlite.specs.declared.types.Value.TheVariants.{Int}
use Rattle.sqlite.specs.Order.{Row}
use Rattle.sql_laws.proofs.RowMaps.{text_ties_itself}
use Rattle.po_text.specs.declared.entry.Previous.{Previous}
use Rattle.po_text.specs.Texts.{Text}
use Rattle.units.specs.KeyTexts.{HasStrings}
use Rattle.units.specs.Units.{key_text, no_previous}
use Rattle.units.specs.declared.unit.Suggestion.{Suggestion}
use Rattle.units.specs.declared.unit.Unit.{Unit}
use Rattle.units.specs.declared.unit.UnitState.{UnitState}
use Rattle.units.specs.declared.unit.UnitState.TheVariants.{Untranslated, NeedsEditing, Translated, Approved}
use Rattle.units.specs.declared.votes.VoteValue.{VoteValue}
use Rattle.units.specs.declared.votes.VoteValue.TheVariants.{For, Against}
use Rattle.request_book.specs.Acts.{IsNumber, vote_number}
use Rattle.request_book.specs.Words.{number_text}
use Rattle.sql_columns.specs.Numbers.{state_number, flag_number}
use Rattle.sql_columns.specs.Readings.{number_read, texts_read, previous_read}
use Rattle.sql_columns.specs.Written.{ArePrevious, texts_text, previous_text}
use Rattle.sql_columns.proofs.Keys.{parts_of_text}
use Rattle.sql_columns.proofs.Readers.{texts_found, previous_found, number_written, number_found}
use Rattle.sql_schema.specs.Keys.{is_on_unit}
use Rattle.sql_schema.specs.Inside.{HoldsValues}
use Rattle.sql_schema.specs.Rows.{text_or_null}
use Rattle.sql_meaning.specs.Values.{text_or_null_at, flag_at, state_at, vote_at}
use Rattle.sql_meaning.specs.Meaning.{suggestions_in, votes_in, suggestion_of_row, unit_of_row}
use Rattle.sql_meaning.specs.Cells.{unit_cells, suggestion_cells, vote_cells}
use Rattle.sql_schema.specs.Layouts.{NamedRows}

text_or_null_back : (o : Option Text) → text_or_null_at 0 (text_or_null o ∷ []) ≡ o
text_or_null_back None = refl
text_or_null_back (Some t) = refl

state_back : (s : UnitState) → state_at 0 (Int (state_number s) ∷ []) ≡ s
state_back Untranslated = refl
state_back NeedsEditing = refl
state_back Translated = refl
state_back Approved = refl

flag_back : (b : Bool) → flag_at 0 (Int (flag_number b) ∷ []) ≡ b
flag_back true = refl
flag_back false = refl

vote_back : (v : VoteValue) → vote_at 0 (Int (vote_number (Some v)) ∷ []) ≡ v
vote_back For = refl
vote_back Against = refl

texts_back : (ts : List Text) → unwrap_or (texts_read (texts_text ts)) [] ≡ ts
texts_back ts = ap (λ o. unwrap_or o []) (texts_found (texts_text ts) ts refl)

previous_back : (p : Previous) → ArePrevious p → unwrap_or (previous_read (previous_text p)) no_previous ≡ p
previous_back p fit = ap (λ o. unwrap_or o no_previous) (previous_found (previous_text p) p fit refl)

-- the texts of numbers tell them apart
pub numbers_apart : (a b : Text) → IsNumber a → IsNumber b → number_text a ≡ number_text b → a ≡ b
numbers_apart a b fit_a fit_b is =
    sym (ap (λ o. unwrap_or o []) (number_found (number_text a) a fit_a refl)) ∙ ap (λ o. unwrap_or o []) (number_found (number_text a) b fit_b is)

-- a column that reads as a number is its text
pub text_of_number : (column number : Text) → IsNumber number → unwrap_or (number_read column) [] ≡ number → column ≡ number_text number
text_of_number column number fit = by (number_read column) refl
  where
    by : (o : Option Text) → number_read column ≡ o → unwrap_or o [] ≡ number → column ≡ number_text number
    by (Some n) read same = number_written column number (read ∙ ap Some same)
    by None read none = let long = fit.0 in let short : 0 ≡ length number = ap length none in absurd (omega arith)

pub unit_read_back : (tables : NamedRows) (lang : Text) (unit : Unit) (row : Row) → HoldsValues (unit_cells lang unit) row → HasStrings unit.key → ArePrevious unit.previous
    → suggestions_in tables lang (key_text unit.key) ≡ unit.suggestions → unit_of_row tables row ≡ unit
unit_read_back tables lang unit row (id, is) strings previous suggestions =
    let key = parts_of_text unit.key strings in
    let plural = text_or_null_back unit.plural in
    let forms = texts_back unit.forms in
    let state = state_back unit.state in
    let obsolete = flag_back unit.obsolete in
    let comment = texts_back unit.comment in
    let before = previous_back unit.previous previous in
    ap (unit_of_row tables) is ∙ (λ i. record {
      key = key i;
      plural = plural i;
      forms = forms i;
      state = state i;
      obsolete = obsolete i;
      revision = unit.revision;
      comment = comment i;
      previous = before i;
      suggestions = suggestions i;
    })

pub suggestion_read_back : (tables : NamedRows) (lang key : Text) (place : ℕ) (s : Suggestion) (row : Row) → HoldsValues (suggestion_cells lang key place s) row → IsNumber s.number
    → votes_in tables (number_text s.number) ≡ s.votes → suggestion_of_row tables row ≡ s
suggestion_read_back tables lang key place s row (id, is) fit votes =
    let number = ap (λ o. unwrap_or o []) (number_found (number_text s.number) s.number fit refl) in
    let forms = texts_back s.forms in
    ap (suggestion_of_row tables) is ∙ (λ i. record { number = number i; suggester = s.suggester; forms = forms i; votes = votes i })

pub is_on_its_unit : (lang key : Text) (place : ℕ) (s : Suggestion) (row : Row) → HoldsValues (suggestion_cells lang key place s) row → is_on_unit lang key row ≡ true
is_on_its_unit lang key place s row (id, is) = ap (is_on_unit lang key) is ∙ and_from _ _ (text_ties_itself lang) (text_ties_itself key)

pub vote_read_back : (number : Text) (vote : Text × VoteValue) (row : Row) → HoldsValues (vote_cells number vote) row → vote_at 3 row ≡ vote.1
vote_read_back number vote row (id, is) = ap (vote_at 3) is ∙ vote_back vote.1
