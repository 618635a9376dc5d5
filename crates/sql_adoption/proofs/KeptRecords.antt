-- Records that a walk over all of them tested: they keep their rules, or don't.
use Rattle.std.proofs.Common.{◌≡◌, List, ◌∷◌, [], true, false, Result, Ok, Err, IfErr, sym, ap, ◌∙◌, codes, All}
use Rattle.std.specs.List.{list_all}
use Rattle.std.proofs.lemmas.Bool.{false≢true}
use Rattle.sqlite.specs.Effect.{Database}
use Rattle.sqlite.specs.Order.{Row}
use Rattle.sqlite_rules.proofs.ListLemmas.{test_has, test_from}
use Rattle.sql_laws.specs.RowMaps.{OneEach}
use Rattle.units.specs.Office.{main}
use Rattle.sql_schema.specs.Keys.{columns}
use Rattle.sql_schema.specs.Inside.{AreOfficeTablesOf}
use Rattle.sql_schema.specs.Layouts.{by_domain, rows_named}
use Rattle.sql_schema.specs.SeenRows.{seen_in}
use Rattle.sql_statements.specs.RecordTable.{ShowsRecords, ShowsRecordsIn}
use Rattle.sql_meaning.specs.Meaning.{number_at}
use Rattle.sql_meaning.proofs.DomainOfficeRows.{domain_rows}
use Rattle.sql_adoption.specs.declared.faults.OpenFault.{OpenFault}
use Rattle.sql_adoption.specs.declared.faults.OpenFault.TheVariants.{Memory, Disk, Foreign, Exists, Refused}
use Rattle.sql_adoption.specs.declared.faults.Mismatch.TheVariants.{OtherTables, OtherForm, UnreadRow, OtherFigures, BrokenRules}
use Rattle.sql_adoption.specs.BookShown.{IsRecordRow}
use Rattle.sql_adoption.specs.NotedRecords.{has_status}
use Rattle.sql_adoption.specs.Reading.{KeepsRecords, RefusesBook, RefusesRecords}
use Rattle.sql_adoption.proofs.Stand.{all_contents, book_stands, is_shown, was_there}
use Rattle.sql_adoption.proofs.WholeBook.{all_numbered, one_number}
use Rattle.sql_adoption.proofs.Recorded.{statuses_kept, statuses_told}

module _ (db : Database) (rows : List Row) (shows : ShowsRecords db rows) (stand : All IsRecordRow rows) where
  pub records_kept : list_all has_status rows ≡ true → KeepsRecords db
  records_kept all = record {
    stand = book_stands (rows_named db) rows shows stand;
    numbered = all_numbered (rows_named db) rows shows stand;
    contents = all_contents (rows_named db) rows shows stand;
    statuses = statuses_kept (rows_named db) (λ row there. test_has has_status rows (columns (2 ∷ 3 ∷ 4 ∷ 1 ∷ []) row) all (is_shown (rows_named db) (codes "record") (2 ∷ 3 ∷ 4 ∷ 1 ∷ []) (3 ∷ []) rows shows row there));
  }

  -- whichever domain sees them
  one_each : AreOfficeTablesOf by_domain db → OneEach (number_at 1) (rows_named db (codes "record"))
  one_each ready =
      let seen : ShowsRecordsIn (seen_in main (rows_named db)) rows = record { all = shows.all; in_order = shows.in_order } in
      one_number (seen_in main (rows_named db)) rows seen stand (domain_rows db ready main)

  pub records_refused : AreOfficeTablesOf by_domain db → list_all has_status rows ≡ false → RefusesRecords db (Foreign BrokenRules)
  records_refused ready some have =
      false≢true (sym some ∙ test_from has_status rows (λ row here.
      let was = was_there (rows_named db) (codes "record") (2 ∷ 3 ∷ 4 ∷ 1 ∷ []) (3 ∷ []) rows shows row here in
      ap has_status was.2 ∙ statuses_told (rows_named db) (one_each ready) have was.0 was.1))

-- why records weren't read
unread_records : (db : Database) (fault : OpenFault) → RefusesBook db fault → RefusesRecords db fault
unread_records db (Foreign UnreadRow) h = h
unread_records db (Foreign OtherFigures) h = absurd h
unread_records db (Foreign BrokenRules) h = absurd h
unread_records db (Foreign OtherForm) h = absurd h
unread_records db (Foreign OtherTables) h = absurd h
unread_records db Exists h = absurd h
unread_records db Memory h = tt
unread_records db Disk h = tt
unread_records db Refused h = tt

pub records_unread : (C : Type 0) {A : Type 0} (db : Database) (r : Result A OpenFault) → IfErr r (λ fault. C → RefusesBook db fault) → IfErr r (λ fault. C → RefusesRecords db fault)
records_unread C db (Ok x) h = tt
records_unread C db (Err fault) h = λ clean. unread_records db fault (h clean)
