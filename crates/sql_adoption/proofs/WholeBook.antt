-- The book that the rows of `record` stand for: what a read of the whole table shows of it.
use Rattle.std.proofs.Common.{◌≡◌, Bool, true, false, List, [], ◌∷◌, map, Option, Some, None, unwrap_or, refl, sym, ap, ◌∙◌, All, codes}
use Rattle.std.specs.Prelude.{IsSome}
use Rattle.std.specs.Option.{option_map_or}
use Rattle.std.proofs.lemmas.Bool.{and_parts}
use Rattle.std.specs.Cmp.Lexicographic.{nat_list_cmp_total}
use Rattle.std.proofs.lemmas.List.Elements.{recursion_from_All}
use Rattle.std.proofs.lemmas.List.Sorted.{IsPermutation-sym}
use Rattle.sqlite.specs.declared.types.Value.{Value}
use Rattle.sqlite.specs.declared.types.Value.TheVariants.{Null, Int, Real, Text as Words, Blob}
use Rattle.sqlite.specs.Order.{Row, column}
use Rattle.sqlite_value.specs.Order.{bytes}
use Rattle.sqlite_rules.proofs.ListLemmas.{all_has}
use Rattle.sql_laws.specs.RowMaps.{OneEach}
use Rattle.sql_laws.proofs.RemovedRows.{to_mapped, has_permuted}
use Rattle.po_text.specs.Texts.{Text, text_cmp}
use Rattle.request_book.specs.Words.{number_text}
use Rattle.sql_columns.specs.Readings.{number_read}
use Rattle.sql_columns.proofs.Readers.{number_written}
use Rattle.sql_schema.specs.Keys.{text_at, first_text, columns}
use Rattle.sql_meaning.specs.RowKeys.{AreOfficeRows}
use Rattle.sql_meaning.specs.Meaning.{AreNumbered, number_at, recorded_in, book_in}
use Rattle.sql_meaning.specs.Shown.{shown_record}
use Rattle.sql_meaning.proofs.Books.{same_texts}
use Rattle.sql_meaning.proofs.ShownMaps.{map_is, inserted_answers}
use Rattle.sql_statements.specs.RecordTable.{ShowsRecordsIn}
use Rattle.sql_decoding.specs.RowTests.{text_passes, is_number}
use Rattle.sql_adoption.specs.BookShown.{book_shown, IsRecordRow}
use Rattle.sql_schema.specs.Layouts.{NamedRows}

-- a column that holds a number's text
some_number : (p : Text → Bool) (o : Option Text) → option_map_or p o false ≡ true → IsSome o
some_number p (Some number) passes = refl
some_number p None passes = absurd cc

pub holds_number : (v : Value) → text_passes is_number v ≡ true → IsSome (number_read (bytes v))
unfolding is_number
holds_number Null holds = absurd cc
holds_number (Int n) holds = absurd cc
holds_number (Real x) holds = absurd cc
holds_number (Words text) holds = some_number _ (number_read text) (and_parts _ _ holds).1
holds_number (Blob b) holds = absurd cc

pub is_numbered : (row : Row) → IsRecordRow row → IsSome (number_read (text_at 3 row))
is_numbered row is = holds_number (column row 3) (and_parts _ _ is.stands).0

own : (o : Option Text) → IsSome o → o ≡ Some (unwrap_or o [])
own (Some x) h = refl
own None h = absurd (let e = h in cc)

pub named : (row : Row) → IsSome (number_read (first_text row)) → first_text row ≡ number_text (number_at 1 row)
named row some = number_written (first_text row) (number_at 1 row) (own (number_read (first_text row)) some)

-- as it is shown
abbrev shown : Row → Row
shown = columns (2 ∷ 3 ∷ 4 ∷ 1 ∷ [])

module _ (tables : NamedRows) (rows : List Row) (shows : ShowsRecordsIn tables rows) (stand : All IsRecordRow rows) where
  pub all_numbered : AreNumbered tables
  all_numbered row there =
      is_numbered (shown row) (all_has IsRecordRow rows (shown row) (recursion_from_All IsRecordRow rows stand)
      (has_permuted rows (map shown (tables (codes "record"))) (shown row) (IsPermutation-sym (map shown (tables (codes "record"))) rows shows.all) (to_mapped shown (tables (codes "record")) row there)))

  pub one_number : AreOfficeRows tables → OneEach (number_at 1) (tables (codes "record"))
  one_number office r s in_r in_s e =
      office.keyed.one_record r s in_r in_s
      (named r (all_numbered r in_r) ∙ (ap number_text e ∙ sym (named s (all_numbered s in_s))))

  pub whole_book : AreOfficeRows tables → book_in tables ≡ book_shown rows
  whole_book office =
      map_is text_cmp nat_list_cmp_total same_texts (number_at 1) recorded_in shown (number_at 3) shown_record (tables (codes "record")) rows
      (λ r there. refl) (λ r there. refl) shows.all (book_shown rows) (one_number office)
      (inserted_answers text_cmp nat_list_cmp_total same_texts (number_at 3) shown_record rows)
