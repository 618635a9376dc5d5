-- What the readers of columns answer is what the columns stand for.
use Rattle.std.proofs.Common.{◌≡◌, ℕ, List, [], refl, sym, ap, ◌∙◌}
use Rattle.std.specs.Prelude.{codes, unwrap_or}
use Rattle.sqlite.specs.declared.types.Value.TheVariants.{Text as Words}
use Rattle.sqlite.specs.Order.{Row, column}
use Rattle.sqlite_value.specs.Order.{bytes}
use Rattle.po_text.specs.Texts.{Text}
use Rattle.po_text.specs.declared.entry.Entry.{Entry}
use Rattle.po_text.specs.declared.entry.Previous.{Previous}
use Rattle.units.specs.Openings.{plain_entry}
use Rattle.units.specs.KeyTexts.{HasStrings}
use Rattle.units.specs.Units.{key_text, no_previous}
use Rattle.units.specs.declared.unit.Key.{Key}
use Rattle.request_book.specs.Acts.{IsNumber}
use Rattle.request_book.specs.Words.{number_text}
use Rattle.sql_columns.specs.Readings.{texts_read, previous_read, header_read, number_read, key_parts}
use Rattle.sql_columns.specs.Written.{texts_text, previous_text, header_text, ArePrevious, IsHeaderEntry}
use Rattle.sql_columns.proofs.Keys.{parts_of_text}
use Rattle.sql_columns.proofs.Readers.{texts_found, previous_found, header_found, number_found}
use Rattle.sql_schema.specs.Keys.{text_at}
use Rattle.sql_meaning.specs.Values.{texts_at}
use Rattle.sql_meaning.specs.Meaning.{number_at, key_at}
use Rattle.sql_meaning.specs.Shown.{shown_header}

module _ (at : ℕ) (row : Row) (text : Text) (holds : column row at ≡ Words text) where
  pub holds_text : text_at at row ≡ text
  holds_text = ap bytes holds

  pub texts_shown : (ts : List Text) → text ≡ texts_text ts → ts ≡ texts_at at row
  texts_shown ts is = sym (ap (λ t. unwrap_or (texts_read t) []) holds_text ∙ ap (λ o. unwrap_or o []) (texts_found text ts is))

  pub previous_shown : (p : Previous) → ArePrevious p → text ≡ previous_text p → p ≡ unwrap_or (previous_read (text_at at row)) no_previous
  previous_shown p fits is = sym (ap (λ t. unwrap_or (previous_read t) no_previous) holds_text ∙ ap (λ o. unwrap_or o no_previous) (previous_found text p fits is))

  pub number_shown : (n : Text) → IsNumber n → text ≡ number_text n → n ≡ number_at at row
  number_shown n fits is = sym (ap (λ t. unwrap_or (number_read t) []) holds_text ∙ ap (λ o. unwrap_or o []) (number_found text n fits is))

  pub key_shown : (key : Key) → HasStrings key → text ≡ key_text key → key ≡ key_at at row
  key_shown key fits is = sym (ap key_parts holds_text ∙ ap key_parts is ∙ parts_of_text key fits)

-- the texts of what is empty
pub no_texts_shown : (at : ℕ) (row : Row) → column row at ≡ Words (codes "[]") → [] ≡ texts_at at row
no_texts_shown at row holds = texts_shown at row (codes "[]") holds [] refl

pub nothing_previous_shown : (at : ℕ) (row : Row) → column row at ≡ Words (codes "[null,null,null]") → no_previous ≡ unwrap_or (previous_read (text_at at row)) no_previous
nothing_previous_shown at row holds = previous_shown at row (codes "[null,null,null]") holds no_previous (record { ctx = refl; id = refl; plural = refl }) refl

pub header_of_shown : (row : Row) (text : Text) → column row 0 ≡ Words text → (header : Entry) → IsHeaderEntry header → text ≡ header_text header → header ≡ shown_header row
header_of_shown row text holds header fits is =
    sym (ap (λ t. unwrap_or (header_read t) (plain_entry [] [])) (holds_text 0 row text holds) ∙ ap (λ o. unwrap_or o (plain_entry [] [])) (header_found text header fits is))
