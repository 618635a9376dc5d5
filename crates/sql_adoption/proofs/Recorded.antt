-- The rules of an office with its book that rows by domains keep, which obey their schema: each suggestion's number is recorded, and none is that of two;
-- and statuses are those of all rows of records.
use Rattle.std.proofs.Common.{◌≡◌, List, [], ◌∷◌, filter, true, Option, Some, None, refl, sym, ap, subst, ◌∙◌, codes, All}
use Rattle.std.specs.Prelude.{IsSome, unwrap_or}
use Rattle.std.specs.FinMap as maps
use Rattle.std.proofs.lemmas.List.Elements.{All-from_recursion}
use Rattle.sqlite.specs.Effect.{Database}
use Rattle.sqlite.specs.Order.{Row}
use Rattle.sqlite_rules.specs.Lists.{Has}
use Rattle.sqlite_rules.proofs.ListLemmas.{all_from, has_filtered}
use Rattle.sql_laws.specs.RowMaps.{IsFound}
use Rattle.sql_laws.proofs.RowMaps.{get-found}
use Rattle.po_text.specs.Texts.{Text, text_cmp}
use Rattle.units.specs.Project.{Place, place_cmp}
use Rattle.units.specs.Office.{Domain, empty_domain, project_in}
use Rattle.units.specs.Offices.{IsOffice}
use Rattle.units.specs.Orders.{text_total, text_IsAntisymmetric, place_total, place_IsAntisymmetric}
use Rattle.units.specs.declared.unit.Suggestion.{Suggestion}
use Rattle.units.specs.declared.unit.Unit.{Unit}
use Rattle.std.specs.Cmp.{int_cmp_total}
use Rattle.std.specs.Ordering.{int_cmp}
use Rattle.request_book.specs.Book.{Recorded}
use Rattle.office_specification.specs.OfficeRules.{KeepsRules}
use Rattle.rule_tests.specs.Books.{is_status, HasStatuses}
use Rattle.sql_columns.specs.Readings.{number_read}
use Rattle.sql_schema.specs.Keys.{text_at, first_text, has_text, is_on_unit}
use Rattle.sql_schema.specs.Inside.{AreOfficeTablesOf}
use Rattle.sql_schema.specs.Layouts.{NamedRows, by_domain, rows_named}
use Rattle.sql_schema.specs.SeenRows.{seen_in, suggestion_seen}
use Rattle.sql_schema.proofs.SeenRows.{from_seen}
use Rattle.sql_laws.specs.RowMaps.{OneEach}
use Rattle.sql_meaning.specs.Values.{integer_at, natural_at}
use Rattle.sql_meaning.specs.Meaning.{number_at, recorded_in, book_in, suggestion_of_row, suggestions_in, place_of_row, unit_of_row}
use Rattle.sql_meaning.specs.Domains.{domain_of_rows, domains_in, office_of_rows}
use Rattle.sql_meaning.proofs.MapValues.{value_of_row}
use Rattle.sql_decoding.specs.RowTests.{is_suggestion_row}
use Rattle.sql_adoption.specs.Adoption.{Each}
use Rattle.sql_adoption.proofs.OwnNumbers.{numbers_own}
use Rattle.sql_adoption.proofs.RecordParents.{d_suggestion_recorded}

-- ---- statuses

module _ (tables : NamedRows) where
  abbrev records : List Row
  records = tables (codes "record")

  -- a number that a row has is recorded
  pub is_recorded : (row : Row) → Has records row → IsSome (maps.get (book_in tables) (number_at 1 row))
  is_recorded row there = by (maps.get (book_in tables) (number_at 1 row)) (get-found text_cmp text_total text_IsAntisymmetric (number_at 1) recorded_in records (number_at 1 row))
    where
      by : (o : Option Recorded) → IsFound (number_at 1) recorded_in records (number_at 1 row) o → IsSome o
      by (Some recorded) found = refl
      by None none = absurd (none row there refl)

  pub statuses_kept : ((row : Row) → Has records row → is_status (natural_at 3 row) ≡ true) → HasStatuses (book_in tables)
  statuses_kept each number recorded is =
      let found = subst (IsFound (number_at 1) recorded_in records number) is (get-found text_cmp text_total text_IsAntisymmetric (number_at 1) recorded_in records number) in
      subst (λ (r : Recorded). is_status r.reply.status ≡ true) found.3 (each found.0 found.1)

  -- where each row has a number of its own
  pub statuses_told : OneEach (number_at 1) records → HasStatuses (book_in tables) → (row : Row) → Has records row → is_status (natural_at 3 row) ≡ true
  statuses_told one have row there = by (maps.get (book_in tables) (number_at 1 row)) refl (get-found text_cmp text_total text_IsAntisymmetric (number_at 1) recorded_in records (number_at 1 row))
    where
      by : (o : Option Recorded) → maps.get (book_in tables) (number_at 1 row) ≡ o → IsFound (number_at 1) recorded_in records (number_at 1 row) o → is_status (natural_at 3 row) ≡ true
      by (Some recorded) is found =
          let same : recorded_in row ≡ recorded = ap recorded_in (sym (one found.0 row found.1 there found.2)) ∙ found.3 in
          ap (λ (r : Recorded). is_status r.reply.status) same ∙ have (number_at 1 row) recorded is
      by None is none = absurd (none row there refl)

-- ---- numbers

module _ (db : Database) (ready : AreOfficeTablesOf by_domain db) where
  abbrev rows : NamedRows
  rows = rows_named db

  module _ (domain : Text) where
    abbrev tables : NamedRows
    tables = seen_in domain rows

    row_recorded : (x : Row) → Has (tables (codes "suggestion")) x → IsSome (maps.get (book_in rows) (number_at 1 x))
    row_recorded x there =
        let s = from_seen (has_text 2 domain) suggestion_seen (rows (codes "d_suggestion")) x there in
        let r = d_suggestion_recorded db ready.schema ready.sound s.0 s.1 in
        let same : first_text r.0 ≡ first_text x = r.2 ∙ sym (ap first_text s.3) in
        subst (λ (t : Text). IsSome (maps.get (book_in rows) (unwrap_or (number_read t) []))) same (is_recorded rows r.0 r.1)

    abbrev AreAll : List Suggestion → Type 0
    AreAll suggestions = All (λ (s : Suggestion). IsSome (maps.get (book_in rows) s.number)) suggestions

    suggested : (lang key : Text) → AreAll (suggestions_in tables lang key)
    suggested lang key =
        All-from_recursion (λ (s : Suggestion). IsSome (maps.get (book_in rows) s.number)) _ (all_from (λ (s : Suggestion). IsSome (maps.get (book_in rows) s.number)) _ (λ s there.
        let x = value_of_row int_cmp int_cmp_total (integer_at 4) (suggestion_of_row tables) (filter (is_on_unit lang key) (tables (codes "suggestion"))) s there in
        subst (λ (t : Suggestion). IsSome (maps.get (book_in rows) t.number)) (sym x.2) (row_recorded x.0 (has_filtered (is_on_unit lang key) (tables (codes "suggestion")) x.0 x.1).0)))

    domain_recorded : (place : Place) (unit : Unit) → maps.get (domain_of_rows rows domain).units place ≡ Some unit → AreAll unit.suggestions
    domain_recorded place unit is =
        let found = subst (IsFound place_of_row (unit_of_row tables) (tables (codes "unit")) place) is (get-found place_cmp place_total place_IsAntisymmetric place_of_row (unit_of_row tables) (tables (codes "unit")) place) in
        subst (λ (u : Unit). AreAll u.suggestions) found.3 (suggested (text_at 1 found.0) (text_at 2 found.0))

  pub numbers_recorded : (domain : Text) (place : Place) (unit : Unit) → maps.get (project_in (office_of_rows rows) domain).units place ≡ Some unit
      → All (λ (s : Suggestion). IsSome (maps.get (book_in rows) s.number)) unit.suggestions
  numbers_recorded domain place unit is =
      by (maps.get (domains_in rows) domain) (get-found text_cmp text_total text_IsAntisymmetric first_text (λ row. domain_of_rows rows (first_text row)) (rows (codes "domain")) domain) is
    where
      by : (o : Option Domain) → IsFound first_text (λ row. domain_of_rows rows (first_text row)) (rows (codes "domain")) domain o → maps.get (unwrap_or o empty_domain).units place ≡ Some unit
          → All (λ (s : Suggestion). IsSome (maps.get (book_in rows) s.number)) unit.suggestions
      by (Some d) found there = domain_recorded (first_text found.0) place unit (ap (λ (e : Domain). maps.get e.units place) found.3 ∙ there)
      by None none there = let nothing : None ≡ Some unit = sym (maps.get-empty place_cmp place) ∙ there in cc

  pub rules_kept : ((domain : Text) → Each (codes "suggestion") (1 ∷ 4 ∷ 5 ∷ 6 ∷ 2 ∷ 3 ∷ []) is_suggestion_row (seen_in domain rows)) → IsOffice (office_of_rows rows) → HasStatuses (book_in rows)
      → KeepsRules (record { office = office_of_rows rows; book = book_in rows })
  rules_kept stands office statuses = record { office = office; recorded = numbers_recorded; own_numbers = numbers_own db ready stands; statuses = statuses }
