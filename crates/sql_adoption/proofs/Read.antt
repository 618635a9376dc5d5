-- The office and the statuses that all rows of the tables show are those that the rows mean.
use Rattle.std.proofs.Common.{◌≡◌, ◌≢◌, ◌⊎◌, inl, inr, ℕ, Bool, List, [], ◌∷◌, ◌++◌, Option, Some, None, Result, Ok, Err, IfOk, IfErr, OnOk, refl, sym, ap, subst, ◌∙◌, codes}
use Rattle.std.specs.Prelude.{All, true}
use Rattle.std.specs.List.{AllByRecursion}
use Rattle.std.specs.Result.{IsErrAnd}
use Rattle.std.proofs.lemmas.List.Elements.{recursion_from_All}
use Rattle.std.specs.BTreeMap.{BTreeMap}
use Rattle.std.specs.FinMap as maps
use Rattle.sqlite.specs.Order.{Row, column}
use Rattle.sqlite.specs.Effect.{Database}
use Rattle.po_text.specs.Texts.{Text}
use Rattle.units.specs.Project.{Project}
use Rattle.units.specs.Office.{Office, main, domain_of}
use Rattle.office_maps.specs.OfficeIn.{office_in}
use Rattle.office_maps.specs.declared.office_maps.OfficeMaps.{OfficeMaps}
use Rattle.sql_schema.specs.Inside.{AreOfficeTablesOf}
use Rattle.sql_schema.specs.SeenRows.{seen_in}
use Rattle.sql_meaning.specs.Meaning.{book_in}
use Rattle.sql_statements.specs.Answers.{ShowsPolicy}
use Rattle.sql_schema.proofs.RowNumbers.{one_row_number}
use Rattle.tables.specs.declared.faults.Lost.{Lost}
use Rattle.tables.specs.declared.faults.Lost.TheVariants as lost
use Rattle.sql_decoding.specs.declared.faults.Failure.{Failure}
use Rattle.office_specification.specs.MainAlone.{main_alone}
use Rattle.sql_statements.specs.declared.whole_office.WholeOffice.{WholeOffice}
use Rattle.sql_statements.specs.WholeOffice.{ShowsWholeOffice, ShowsWholeOfficeIn}
use Rattle.sql_meaning.specs.OfficeShown.{with_shown}
use Rattle.sql_meaning.proofs.WholeOffice.{whole_rows}
use Rattle.sql_meaning.proofs.OfficeRows.{office_rows}
use Rattle.sql_meaning.proofs.DomainOfficeRows.{domain_rows}
use Rattle.sql_statements.specs.RecordTable.{ShowsRecords}
use Rattle.sql_decoding.specs.RowTests.{AreOfficeRows as ReadRows}
use Rattle.sql_decoding.proofs.RowsTold.{disk_is_other}
use Rattle.rule_tests.specs.Given.{AreStatusesOf}
use Rattle.sql_adoption.specs.BookShown.{book_shown, IsRecordRow}
use Rattle.sql_adoption.proofs.WholeBook.{all_numbered, whole_book}
use Rattle.sql_streams.specs.declared.walking.WalkFault.{WalkFault}
use Rattle.sql_streams.specs.declared.walking.WalkFault.TheVariants.{NoRows, NoSink}
use Rattle.sql_streams.specs.Walks.{GaveUpTo, CutShort}
use Rattle.sql_adoption.specs.declared.faults.OpenFault.{OpenFault}
use Rattle.sql_adoption.specs.declared.faults.OpenFault.TheVariants.{Memory, Disk, Foreign, Exists, Refused}
use Rattle.sql_adoption.specs.declared.faults.Mismatch.TheVariants.{OtherTables, OtherForm, UnreadRow, OtherFigures, BrokenRules}
use Rattle.sql_adoption.specs.declared.office_put.ReadOffice.{ReadOffice}
use Rattle.sql_adoption.specs.Adoption.{TellsForm}
use Rattle.sql_adoption.specs.Reading.{unread, IsOfWalk, ShowsForm, IsOfRows, PutsRows, AddsDomain, RefusesRows, RefusesOf, RefusesBook, IsReadOf, AreStatusesIn, with_seen}
use Rattle.sql_adoption.specs.ReadParts.{part_of}
use Rattle.sql_adoption.specs.declared.domains_read.Part.{Part}
use Rattle.sql_adoption.proofs.ReadParts.{told_in_part, policy_of_part, rows_of_part, stand_in_part}
use Rattle.sql_adoption.proofs.Stand.{office_stands, rows_stand, all_contents, book_stands, records_stand}
use Rattle.sql_schema.specs.Layouts.{Form, for_main, by_domain, is_own_table, NamedRows, rows_named}

-- ---- the form

policy_own : (form : Form) → is_own_table form (codes "policy") ≡ true
policy_own (for_main figures) = refl
policy_own by_domain = refl

module _ (form : Form) (db : Database) (found : Option Row) (shows : ShowsPolicy db found) where
  pub form_told_so : ShowsForm form found → TellsForm form (rows_named db)
  form_told_so told =
      let it = subst (ShowsPolicy db) told.1 shows in
      (it.0, it.1, it.2, ap (λ r. column r 0) it.3 ∙ told.2)

  pub form_shown : AreOfficeTablesOf form db → TellsForm form (rows_named db) → ShowsForm form found
  form_shown office told = by found refl
    where
      own : is_own_table form (codes "policy") ≡ true
      own = policy_own form

      by : (o : Option Row) → found ≡ o → ShowsForm form found
      by (Some row) is =
          let it = subst (ShowsPolicy db) is shows in
          let same = one_row_number (rows_named db (codes "policy")) (office.tables (codes "policy") own) it.0 told.0 it.1 told.1 (it.2 ∙ sym told.2) in
          (row, is, ap (λ r. column r 0) (sym it.3) ∙ ap (λ r. column r 2) same ∙ told.3)
      by None is = absurd (subst (ShowsPolicy db) is shows told.0 told.1 told.2)

-- ---- the office of tables without a column for a domain

module _ (figures : Bool) (db : Database) (office : AreOfficeTablesOf (for_main figures) db) (rows : WholeOffice) (shows : ShowsWholeOffice db rows) where
  main_is_read : (read : ReadOffice) → IsOfRows rows read → ShowsForm (for_main figures) rows.office.policy → IsReadOf (for_main figures) db read
  main_is_read read it told = record {
    told = form_told_so (for_main figures) db rows.office.policy shows.office.policy told;
    stand = office_stands (rows_named db) (office_rows db office) rows shows it.stand;
    office = it.office ∙ ap main_alone (whole_rows (rows_named db) (office_rows db office) rows shows);
  }

  pub main_read : (r : Result ReadOffice OpenFault) → IfOk r (IsOfRows rows) → OnOk r (ShowsForm (for_main figures) rows.office.policy) → IfOk r (IsReadOf (for_main figures) db)
  main_read (Ok read) it told = main_is_read read it told
  main_read (Err fault) it told = tt

  pub main_refused : (fault : OpenFault) → RefusesRows (for_main figures) rows fault → RefusesOf (for_main figures) db fault
  main_refused (Foreign UnreadRow) h = λ stand. h (rows_stand (rows_named db) (office_rows db office) rows shows stand.0)
  main_refused (Foreign OtherForm) h = λ told. h (form_shown (for_main figures) db rows.office.policy shows.office.policy office told)
  main_refused (Foreign OtherFigures) h = absurd h
  main_refused (Foreign BrokenRules) h = absurd h
  main_refused (Foreign OtherTables) h = absurd h
  main_refused Exists h = absurd h
  main_refused Memory h = tt
  main_refused Disk h = tt
  main_refused Refused h = tt

-- ---- a domain of tables by domains

module _ (part : Part) (db : Database) (office : AreOfficeTablesOf by_domain db) (domain : Text) (rows : WholeOffice) (shows : ShowsWholeOfficeIn (seen_in domain (part_of part (rows_named db))) rows) where
  abbrev seen : NamedRows
  seen = seen_in domain (part_of part (rows_named db))

  abbrev with_project : Office → Project → Office
  with_project old project = record { domains = maps.insert old.domains domain (domain_of project); team = project.team; policy = project.policy }

  pub seen_put : (old : Office) → with_shown old domain rows ≡ with_seen (part_of part (rows_named db)) old domain
  seen_put old = ap (with_project old) (whole_rows seen (rows_of_part part db office domain) rows shows)

  pub domain_put : (old new : OfficeMaps) → PutsRows domain rows old new → ShowsForm by_domain rows.office.policy → AddsDomain domain (part_of part (rows_named db)) old new
  domain_put old new it told = record {
    told = told_in_part part (rows_named db) (form_told_so by_domain db rows.office.policy (policy_of_part part db domain rows.office.policy shows.office.policy) told);
    stand = office_stands seen (rows_of_part part db office domain) rows shows it.stand;
    office = it.office ∙ seen_put (office_in old);
  }

  pub domain_refused : (fault : OpenFault) → RefusesRows by_domain rows fault → RefusesOf by_domain db fault
  domain_refused (Foreign UnreadRow) h = λ stand. h (rows_stand seen (rows_of_part part db office domain) rows shows (stand_in_part part (rows_named db) domain (stand.0.each domain)))
  domain_refused (Foreign OtherForm) h = λ told. h (form_shown by_domain db rows.office.policy (policy_of_part part db domain rows.office.policy shows.office.policy) office told)
  domain_refused (Foreign OtherFigures) h = absurd h
  domain_refused (Foreign BrokenRules) h = absurd h
  domain_refused (Foreign OtherTables) h = absurd h
  domain_refused Exists h = absurd h
  domain_refused Memory h = tt
  domain_refused Disk h = tt
  domain_refused Refused h = tt

pub domains_put : (part : Part) (db : Database) (office : AreOfficeTablesOf by_domain db) (domain : Text) (rows : WholeOffice) (shows : ShowsWholeOfficeIn (seen_in domain (part_of part (rows_named db))) rows) {U : Type 0} (r : Result U OpenFault)
    (old new : OfficeMaps) → OnOk r (PutsRows domain rows old new) → OnOk r (ShowsForm by_domain rows.office.policy) → IfOk r (λ _. AddsDomain domain (part_of part (rows_named db)) old new)
domains_put part db office domain rows shows (Ok u) old new it told = domain_put part db office domain rows shows old new it told
domains_put part db office domain rows shows (Err fault) old new it told = tt

-- ---- why not

-- rows that weren't read
pub rows_unread : (form : Form) (rows : WholeOffice) (failure : Failure) (fault : OpenFault) → fault ≡ unread failure.lost → (failure.lost ≢ lost.Memory → ¬ ReadRows rows) → RefusesRows form rows fault
rows_unread form rows failure fault is unread_rows = subst (RefusesRows form rows) (sym is) (by failure.lost refl)
  where
    by : (l : Lost) → failure.lost ≡ l → RefusesRows form rows (unread l)
    by lost.Memory e = tt
    by lost.Refused e = tt
    by lost.Disk e = unread_rows (disk_is_other failure.lost e)

-- what a refusal of rows says of those of a database
pub all_refused : {C U : Type 0} (form : Form) (rows : WholeOffice) (db : Database) (r : Result U OpenFault) → (C → (fault : OpenFault) → RefusesRows form rows fault → RefusesOf form db fault)
    → IfErr r (RefusesRows form rows) → IfErr r (λ fault. C → RefusesOf form db fault)
all_refused form rows db (Ok u) refused h = tt
all_refused form rows db (Err fault) refused h = λ clean. refused clean fault h

-- ---- the book

-- whichever tables they stand in
book_is : (form : Form) (db : Database) (rows : List Row) → ShowsRecords db rows → All IsRecordRow rows → AreOfficeTablesOf form db → book_in (rows_named db) ≡ book_shown rows
book_is (for_main figures) db rows shows stand office = whole_book (rows_named db) rows shows stand (office_rows db office)
book_is by_domain db rows shows stand office = whole_book (seen_in main (rows_named db)) rows (record { all = shows.all; in_order = shows.in_order }) stand (domain_rows db office main)

module _ (form : Form) (db : Database) (rows : List Row) (shows : ShowsRecords db rows) (stand : All IsRecordRow rows) where
  pub statuses_are_read : AreOfficeTablesOf form db → (statuses : BTreeMap Text ℕ) → AreStatusesOf (book_shown rows) statuses → AreStatusesIn db statuses
  statuses_are_read office statuses are = record {
    statuses_are = subst (λ book. AreStatusesOf book statuses) (sym (book_is form db rows shows stand office)) are;
    stand = book_stands (rows_named db) rows shows stand;
    numbered = all_numbered (rows_named db) rows shows stand;
    contents = all_contents (rows_named db) rows shows stand;
  }

-- records that weren't read
module _ (db : Database) {K : Type 0} (Took : K → List Row → K → Type 0) (first last : K) where
  abbrev Refuses : K → Row → Failure → K → Type 0
  Refuses a row failure b = failure.lost ≢ lost.Memory → ¬ IsRecordRow row

  in_the_middle : (xs : List Row) (y : Row) (ys : List Row) → AllByRecursion IsRecordRow (xs ++ y ∷ ys) → IsRecordRow y
  in_the_middle [] y ys all = all.0
  in_the_middle (x ∷ xs) y ys all = in_the_middle xs y ys all.1

  book_unread : (failure : Failure) (fault : OpenFault) → GaveUpTo Took Refuses (ShowsRecords db) first last failure → fault ≡ unread failure.lost → RefusesBook db fault
  book_unread failure fault it is = subst (RefusesBook db) (sym is) (by failure.lost refl)
    where
      by : (l : Lost) → failure.lost ≡ l → RefusesBook db (unread l)
      by lost.Memory e = tt
      by lost.Refused e = tt
      by lost.Disk e = λ stand.
          it.refused (disk_is_other failure.lost e) (in_the_middle it.front it.row it.rest (recursion_from_All IsRecordRow (it.front ++ it.row ∷ it.rest) (records_stand (rows_named db) (it.front ++ it.row ∷ it.rest) it.answer stand)))

  no_statement : (fault : OpenFault) → (fault ≡ Memory) ⊎ ((fault ≡ Disk) ⊎ (fault ≡ Refused)) → RefusesBook db fault
  no_statement fault (inl is) = subst (RefusesBook db) (sym is) tt
  no_statement fault (inr (inl is)) = subst (RefusesBook db) (sym is) tt
  no_statement fault (inr (inr is)) = subst (RefusesBook db) (sym is) tt

  walk_refuses : (cut : WalkFault Failure) (fault : OpenFault) → IsOfWalk cut fault → CutShort Took Refuses (ShowsRecords db) first last cut → RefusesBook db fault
  walk_refuses (NoRows error) fault is it = no_statement fault is.others
  walk_refuses (NoSink failure) fault is it = book_unread failure fault it is

  pub walk_refused : {C A : Type 0} (r : Result A OpenFault) (cut : WalkFault Failure) → IsErrAnd r (IsOfWalk cut) → (C → CutShort Took Refuses (ShowsRecords db) first last cut)
      → IfErr r (λ fault. C → RefusesBook db fault)
  walk_refused (Ok x) cut is it = tt
  walk_refused (Err fault) cut is it = λ clean. walk_refuses cut fault is (it clean)
