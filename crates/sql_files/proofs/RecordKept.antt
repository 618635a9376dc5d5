-- A record alone, committed, keeps an office's file one.
use Rattle.std.proofs.Common.{◌≡◌, ◌≢◌, inl, ℕ, pos, [], ◌∷◌, true, refl, sym, subst, codes, List}
use Rattle.std.specs.Prelude.{IsTrue, IsUtf8, nat_lt}
use Rattle.std.proofs.lemmas.Bool.{and_from, lt-ltb}
use Rattle.std.proofs.lemmas.Str.{IsUtf8-from_ascii}
use Rattle.sqlite.specs.declared.types.Value.TheVariants.{Int, Text as Words}
use Rattle.sqlite.specs.Order.{Row}
use Rattle.uuid.specs.Text.{lower}
use Rattle.uuid.proofs.TextLemmas.{hyphenated_ascii}
use Rattle.request_book.specs.Acts.{IsNumber}
use Rattle.request_book.specs.Words.{number_text}
use Rattle.request_book.specs.declared.book.Record.{Record}
use Rattle.po_text.specs.Texts.{Text}
use Rattle.sql_schema.specs.Inside.{PutsIn, HoldsValues}
use Rattle.sql_schema.specs.Keys.{text_at, first_text, columns}
use Rattle.sql_meaning.specs.Cells.{record_cells}
use Rattle.sql_adoption.specs.Adoption.{TellsForm, StandForOffice, StandForBook}
use Rattle.request_book.specs.Contents.{IsContent}
use Rattle.sql_decoding.specs.RowTests.{any_text, is_number, is_status, is_record_row}
use Rattle.sql_decoding.proofs.ColumnsTested.{text_stands, integer_is, number_stands, natural_stands}
use Rattle.sql_files.specs.Files.{IsKeepable}
use Rattle.sql_files.proofs.Puts.{all_put, office_same, form_same}
use Rattle.sql_schema.specs.Layouts.{by_domain, NamedRows}
use Rattle.sql_schema.proofs.Layouts.{names_differ}

pub number_utf8 : (number : Text) → IsUtf8 (number_text number)
number_utf8 number = IsUtf8-from_ascii (number_text number) (hyphenated_ascii lower number (inl refl))

module _ (row : Record) (valid : IsNumber row.number) (keepable : IsKeepable row) where
  -- content, status, body, number
  abbrev shown : Row
  shown = Words row.content ∷ Int (pos row.reply.status) ∷ Words row.reply.body ∷ Words (number_text row.number) ∷ []

  pub record_stands : is_record_row shown ≡ true
  record_stands =
      and_from _ _ (text_stands 3 shown (number_text row.number) refl is_number (number_utf8 row.number) (number_stands (number_text row.number) row.number valid refl))
      (and_from _ _ (text_stands 0 shown row.content refl any_text keepable.text refl)
      (and_from _ _ (integer_is 1 shown (pos row.reply.status) refl is_status true (natural_stands (λ n. nat_lt n 65536) (pos row.reply.status) row.reply.status (lt-ltb row.reply.status 65536 keepable.status) refl))
      (text_stands 2 shown row.reply.body refl any_text keepable.body refl)))

module _ (old new : NamedRows) (row : Record) (valid : IsNumber row.number) (put : PutsIn (codes "record") first_text (HoldsValues (record_cells row)) old new) where
  stays : (name : List ℕ) → name ≢ codes "record" → new name ≡ old name
  stays name apart = put.others name apart

  pub office_kept : StandForOffice old → StandForOffice new
  office_kept it =
      office_same old new (stays (codes "team") (names_differ refl)) (stays (codes "policy") (names_differ refl)) (stays (codes "template") (names_differ refl))
      (stays (codes "language") (names_differ refl)) (stays (codes "unit") (names_differ refl)) (stays (codes "suggestion") (names_differ refl)) (stays (codes "vote") (names_differ refl)) it

  pub form_kept : TellsForm by_domain old → TellsForm by_domain new
  form_kept it = form_same old new (stays (codes "policy") (names_differ refl)) it

  pub book_kept : IsKeepable row → StandForBook old → StandForBook new
  book_kept keepable it = record {
    records = all_put first_text (λ r. IsTrue (is_record_row (columns (2 ∷ 3 ∷ 4 ∷ 1 ∷ []) r))) (old (codes "record")) (new (codes "record")) put.row put.put it.records
        (subst (λ r. IsTrue (is_record_row (columns (2 ∷ 3 ∷ 4 ∷ 1 ∷ []) r))) (sym put.is_row.1) (record_stands row valid keepable));
    contents = all_put first_text (λ r. IsContent (text_at 2 r)) (old (codes "record")) (new (codes "record")) put.row put.put it.contents
        (subst (λ r. IsContent (text_at 2 r)) (sym put.is_row.1) keepable.content);
  }
