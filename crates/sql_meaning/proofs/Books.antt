-- The book that the rows of `record` stand for: what a query by number finds of it, and what a new row makes of it.
use Rattle.std.proofs.Common.{◌≡◌, [], ◌∷◌, Option, Some, None, IsSome, option_map, unwrap_or, refl, sym, ap, subst, ◌∙◌, codes}
use Rattle.std.specs.Cmp.Lexicographic.{nat_list_cmp_total}
use Rattle.std.specs.FinMap as maps
use Rattle.std.specs.FinMap.{slice_cmp-IsAntisymmetric, nat_cmp-IsAntisymmetric, IsAntisymmetric}
use Rattle.sqlite.specs.Order.{Row}
use Rattle.sql_laws.specs.RowMaps.{OneEach, IsFound}
use Rattle.po_text.specs.Texts.{Text, text_cmp}
use Rattle.request_book.specs.Acts.{IsNumber}
use Rattle.request_book.specs.Book.{Recorded, with_record}
use Rattle.request_book.specs.Words.{number_text}
use Rattle.request_book.specs.declared.book.Record.{Record}
use Rattle.sql_columns.specs.Readings.{number_read}
use Rattle.sql_columns.proofs.Readers.{number_written, number_found}
use Rattle.sql_schema.specs.Keys.{first_text, columns}
use Rattle.sql_schema.specs.Inside.{PutsIn, HoldsValues}
use Rattle.sql_meaning.specs.Meaning.{AreNumbered, number_at, recorded_in, book_in}
use Rattle.sql_meaning.specs.Shown.{shown_record}
use Rattle.sql_meaning.specs.Cells.{record_cells}
use Rattle.sql_meaning.proofs.Lookups.{AreOneKey, IsKeyOf, finds, puts, all_read}
use Rattle.sql_schema.specs.Layouts.{NamedRows}

-- the order of texts
pub same_texts : IsAntisymmetric text_cmp
same_texts = slice_cmp-IsAntisymmetric nat_cmp-IsAntisymmetric

-- the first column is a number's text
abbrev HasNumber : Row → Type 0
HasNumber row = IsSome (number_read (first_text row))

own : (o : Option Text) → IsSome o → o ≡ Some (unwrap_or o [])
own (Some x) h = refl
own None h = absurd (let e = h in cc)

named : (row : Row) → HasNumber row → first_text row ≡ number_text (number_at 1 row)
named row some = number_written (first_text row) (number_at 1 row) (own (number_read (first_text row)) some)

number_is : (row : Row) (number : Text) → IsNumber number → first_text row ≡ number_text number → number_at 1 row ≡ number
number_is row number valid is = ap (λ o. unwrap_or o []) (number_found (first_text row) number valid is)

by_number : AreOneKey first_text (number_at 1) HasNumber
by_number = record {
  forth = λ r s reads_r reads_s e. ap (λ t. unwrap_or (number_read t) []) e;
  back = λ r s reads_r reads_s e. named r reads_r ∙ ap number_text e ∙ sym (named s reads_s);
}

number_asked : (number : Text) → IsNumber number → IsKeyOf first_text (number_at 1) HasNumber (number_text number) number
number_asked number valid = record {
  forth = λ r reads is. number_is r number valid is;
  back = λ r reads is. named r reads ∙ ap number_text is;
}

pub finds_record : (tables : NamedRows) (number : Text) (found : Option Row) → AreNumbered tables → OneEach first_text (tables (codes "record")) → IsNumber number
    → IsFound first_text (columns (2 ∷ 3 ∷ 4 ∷ [])) (tables (codes "record")) (number_text number) found
    → maps.get (book_in tables) number ≡ option_map shown_record found
finds_record tables number found numbered one valid it =
    finds first_text (number_at 1) HasNumber text_cmp nat_list_cmp_total same_texts recorded_in (tables (codes "record")) (number_text number) number (columns (2 ∷ 3 ∷ 4 ∷ [])) shown_record found
    numbered one by_number (number_asked number valid) (λ r is. refl) it

module _ (old new : NamedRows) (r : Record) (valid : IsNumber r.number) (numbered : AreNumbered old)
    (made : PutsIn (codes "record") first_text (HoldsValues (record_cells r)) old new) where
  row_is : first_text made.row ≡ number_text r.number
  row_is = ap first_text made.is_row.1

  row_numbered : HasNumber made.row
  row_numbered = subst IsSome (sym (number_found (first_text made.row) r.number valid row_is)) refl

  pub numbered_still : AreNumbered new
  numbered_still = all_read first_text (number_at 1) HasNumber (old (codes "record")) (new (codes "record")) made.row numbered row_numbered made.put

  pub book_put : OneEach first_text (old (codes "record")) → book_in new ≡ with_record (book_in old) r
  book_put one =
      puts first_text (number_at 1) HasNumber text_cmp nat_list_cmp_total same_texts recorded_in (old (codes "record")) (new (codes "record")) made.row numbered row_numbered one by_number made.put
      ∙ ap (λ n. maps.insert (book_in old) n (recorded_in made.row)) (number_is made.row r.number valid row_is)
      ∙ ap (λ (v : Recorded). maps.insert (book_in old) r.number v) (ap recorded_in made.is_row.1)
