-- What the readers of rows that are to be adopted answer. Only inner clauses and proofs cite this file.
use Rattle.std.specs.Prelude.{◌≡◌, ◌⊎◌, ◌↔◌, ⊤, ℕ, Bool, true, false, List, [], ◌∷◌, map, Contains, Option, Some, Result, IfErr, IsTrue, codes}
use Rattle.std.specs.List.{list_any}
use Rattle.std.specs.BTreeMap.{BTreeMap}
use Rattle.std.specs.FinMap as maps
use Rattle.sqlite.specs.declared.error.Error.{Error}
use Rattle.sqlite.specs.declared.error.Error.TheVariants.{SqliteFailure}
use Rattle.sqlite.specs.declared.error.ErrorCode.TheVariants.{OutOfMemory}
use Rattle.sqlite.specs.declared.types.Value.TheVariants.{Int}
use Rattle.sqlite.specs.Order.{Row, column}
use Rattle.sqlite.specs.Effect.{Database}
use Rattle.sqlite.specs.State.{State, HasCleanDisk}
use Rattle.po_text.specs.declared.entry.Entry.{Entry}
use Rattle.po_text.specs.Texts.{Text, text_cmp, text_eq}
use Rattle.tables.specs.declared.faults.Lost.{Lost}
use Rattle.tables.specs.declared.faults.Lost.TheVariants as lost
use Rattle.units.specs.Office.{Office, main}
use Rattle.units.specs.Openings.{opening}
use Rattle.request_book.specs.Book.{OfficeWithBook}
use Rattle.office_specification.specs.MainAlone.{main_alone}
use Rattle.office_specification.specs.OfficeRules.{KeepsRules}
use Rattle.office_maps.specs.OfficeIn.{office_in}
use Rattle.office_maps.specs.declared.office_maps.OfficeMaps.{OfficeMaps}
use Rattle.sql_schema.specs.Keys.{text_at}
use Rattle.sql_schema.specs.SeenRows.{seen_in}
use Rattle.sql_laws.specs.DiskErrors.{is_of_disk, HasFailed}
use Rattle.sql_meaning.specs.Meaning.{team_in, policy_in, book_in, AreNumbered}
use Rattle.sql_meaning.specs.Domains.{domain_of_rows, office_of_rows, is_domain, meaning_for}
use Rattle.sql_statements.specs.Tables.{ShowsTableIn}
use Rattle.sql_statements.specs.declared.whole_office.WholeOffice.{WholeOffice}
use Rattle.sql_meaning.specs.OfficeShown.{project_shown, with_shown}
use Rattle.sql_decoding.specs.RowTests.{is_domain_row, AreOfficeRows}
use Rattle.sql_decoding.specs.declared.faults.Failure.{Failure}
use Rattle.sql_streams.specs.declared.walking.WalkFault.{WalkFault}
use Rattle.sql_streams.specs.declared.walking.WalkFault.TheVariants.{NoRows, NoSink}
use Rattle.rule_tests.specs.Books.{HasStatuses}
use Rattle.rule_tests.specs.Given.{AreAll, AreAllDomains, AreAllLangs, AreStatusesOf}
use Rattle.sql_adoption.specs.declared.faults.OpenFault.{OpenFault}
use Rattle.sql_adoption.specs.declared.faults.OpenFault.TheVariants.{Memory, Disk, Foreign, Exists, Refused}
use Rattle.sql_adoption.specs.declared.faults.Mismatch.TheVariants.{OtherTables, OtherForm, UnreadRow, OtherFigures, BrokenRules}
use Rattle.sql_adoption.specs.declared.office_put.ReadOffice.{ReadOffice}
use Rattle.sql_adoption.specs.Adoption.{schema_number, TellsForm, KeepsFigures, AreContents, Each, StandForOffice, StandForOfficeOf, StandForBook}
use Rattle.sql_schema.specs.Layouts.{Form, for_main, by_domain, NamedRows, rows_named}
use Rattle.units.specs.Offices.{IsOffice}
use Rattle.sql_figures.specs.Figures.{HoldFigures, figures_of_main}
use Rattle.sql_figures.specs.KeptTallies.{office_counts}
use Rattle.sql_adoption.specs.FigureRows.{ShowFigures, votes_stand}
use Rattle.sql_adoption.specs.declared.figure_rows.FigureRows.{FigureRows}

-- ---- faults

-- why a statement gives nothing
pub record IsOfStatement (error : Error) (fault : OpenFault) : Type 0 where
  pub memory : (fault ≡ Memory) ↔ (error ≡ SqliteFailure OutOfMemory)
  pub disk : (fault ≡ Disk) ↔ (is_of_disk error ≡ true)
  pub others : (fault ≡ Memory) ⊎ ((fault ≡ Disk) ⊎ (fault ≡ Refused))

-- why rows at hand are not read
abbrev pub unread : Lost → OpenFault
unread lost.Memory = Memory
unread lost.Disk = Foreign UnreadRow
unread lost.Refused = Refused

-- why a walk over rows was cut short: by its query, or by a row that was not read
abbrev pub IsOfWalk : WalkFault Failure → OpenFault → Type 0
IsOfWalk (NoRows error) fault = IsOfStatement error fault
IsOfWalk (NoSink failure) fault = fault ≡ unread failure.lost

-- a fault that tells of the disk comes of a failure of it
abbrev pub OpensTruly : {A : Type 0} → State → State → Result A OpenFault → Type 0
OpensTruly old new result = HasCleanDisk new → IfErr result (λ fault. fault ≡ Disk → HasFailed old new)

-- ---- the form

-- rows that show one column show these names
abbrev pub is_shown_among : List Row → Row → Bool
is_shown_among domains row = list_any (λ d. text_eq (text_at 0 d) (text_at 0 row)) domains

-- what the policy's row shows
abbrev pub ShowsForm : Form → Option Row → Type 0
ShowsForm form found = (row : Row) × (found ≡ Some row) × (column row 0 ≡ Int (schema_number form))

-- ---- languages

-- a language is noted, and so are those that were
pub record NotesLang (lang : Text) (old new : List Text) : Type 0 where
  pub here : Contains new lang
  pub kept : (other : Text) → Contains old other → Contains new other

-- languages are noted, and so are those that were
pub record NotesLangs (headers : maps.FinMap text_cmp Entry) (old new : List Text) : Type 0 where
  pub all : AreAll headers new
  pub kept : (other : Text) → Contains old other → Contains new other

-- ---- the office

-- all domains of an office are here, and all their languages
pub record HoldAll (office : Office) (names listed : List Text) : Type 0 where
  pub domains : AreAllDomains office names
  pub langs : AreAllLangs office listed

abbrev pub HoldsAll : ReadOffice → Type 0
HoldsAll read = HoldAll (office_in read.maps) read.domains.items read.langs.items

-- with no domain; one manager
abbrev pub bare_office : Office
bare_office = record { domains = maps.empty; team = (opening main).team; policy = (opening main).policy }

-- a domain is put in that rows show, which stand for values
pub record PutsRows (domain : Text) (rows : WholeOffice) (old new : OfficeMaps) : Type 0 where
  pub office : office_in new ≡ with_shown (office_in old) domain rows
  pub stand : AreOfficeRows rows

-- the office of `main` alone that all rows of tables show which have no column for a domain, where they stand for values
pub record IsOfRows (rows : WholeOffice) (read : ReadOffice) : Type 0 where
  pub office : office_in read.maps ≡ main_alone (project_shown rows)
  pub all : HoldsAll read
  pub stand : AreOfficeRows rows

abbrev pub RefusesRows : Form → WholeOffice → OpenFault → Type 0
RefusesRows form rows (Foreign OtherForm) = ¬ ShowsForm form rows.office.policy
RefusesRows form rows (Foreign UnreadRow) = ¬ AreOfficeRows rows
RefusesRows form rows (Foreign OtherFigures) = ⊥
RefusesRows form rows (Foreign BrokenRules) = ⊥
RefusesRows form rows (Foreign OtherTables) = ⊥
RefusesRows form rows Exists = ⊥
RefusesRows form rows _ = ⊤

-- ---- the domains of tables by domains

-- the names of the domains, in some order
pub record AreNames (tables : NamedRows) (names : List Text) : Type 0 where
  pub rows : List Row
  pub shows : ShowsTableIn (codes "domain") (1 ∷ []) (0 ∷ []) tables rows
  pub named : names ≡ map (text_at 0) rows
  pub stand : Each (codes "domain") (1 ∷ []) is_domain_row tables

-- an office with a domain and all that it sees, and with the team and the policy
abbrev pub with_seen : NamedRows → Office → Text → Office
with_seen tables office domain = record { domains = maps.insert office.domains domain (domain_of_rows tables domain); team = team_in tables; policy = policy_in tables }

-- a domain is put in with all that it sees, which stands for values, where the policy tells the form
pub record AddsDomain (domain : Text) (tables : NamedRows) (old new : OfficeMaps) : Type 0 where
  pub told : TellsForm by_domain tables
  pub stand : StandForOffice (seen_in domain tables)
  pub office : office_in new ≡ with_seen tables (office_in old) domain

-- the office of all domains, whatever is of another
pub record AreDomainsRead (tables : NamedRows) (read : ReadOffice) : Type 0 where
  pub told : TellsForm by_domain tables
  pub names : Each (codes "domain") (1 ∷ []) is_domain_row tables
  pub some : (domain : Text) × IsTrue (is_domain tables domain)
  pub each : (domain : Text) → IsTrue (is_domain tables domain) → StandForOffice (seen_in domain tables)
  pub office : office_in read.maps ≡ office_of_rows tables

-- ---- each form

-- the office of tables whose policy tells their form
pub record IsReadOf (form : Form) (db : Database) (read : ReadOffice) : Type 0 where
  pub told : TellsForm form (rows_named db)
  pub stand : StandForOfficeOf form (rows_named db)
  pub office : office_in read.maps ≡ (meaning_for form (rows_named db)).office

-- what is true of the rows of tables of a form that are refused so
abbrev pub RefusesOf : Form → Database → OpenFault → Type 0
RefusesOf form db (Foreign OtherTables) = ⊥
RefusesOf form db (Foreign OtherForm) = ¬ TellsForm form (rows_named db)
RefusesOf form db (Foreign UnreadRow) = ¬ (StandForOfficeOf form (rows_named db) × StandForBook (rows_named db))
RefusesOf form db (Foreign OtherFigures) = ¬ KeepsFigures form (rows_named db)
RefusesOf form db (Foreign BrokenRules) = ¬ KeepsRules (meaning_for form (rows_named db))
RefusesOf form db Exists = ⊥
RefusesOf form db _ = ⊤

-- ---- the book

-- the statuses of all records, whose numbers and contents stand for some
pub record AreStatusesIn (db : Database) (statuses : BTreeMap Text ℕ) : Type 0 where
  pub statuses_are : AreStatusesOf (book_in (rows_named db)) statuses
  pub stand : StandForBook (rows_named db)
  pub numbered : AreNumbered (rows_named db)
  pub contents : AreContents (rows_named db)

-- all records are some's, and their replies have statuses that replies may have
pub record KeepsRecords (db : Database) : Type 0 where
  pub stand : StandForBook (rows_named db)
  pub numbered : AreNumbered (rows_named db)
  pub contents : AreContents (rows_named db)
  pub statuses : HasStatuses (book_in (rows_named db))

-- what is true of records that are refused so
abbrev pub RefusesRecords : Database → OpenFault → Type 0
RefusesRecords db (Foreign UnreadRow) = ¬ StandForBook (rows_named db)
RefusesRecords db (Foreign BrokenRules) = ¬ HasStatuses (book_in (rows_named db))
RefusesRecords db (Foreign OtherFigures) = ⊥
RefusesRecords db (Foreign OtherForm) = ⊥
RefusesRecords db (Foreign OtherTables) = ⊥
RefusesRecords db Exists = ⊥
RefusesRecords db _ = ⊤

-- an office keeps the rules with the book of the rows
pub record KeepsBook (office : Office) (db : Database) : Type 0 where
  pub stand : StandForBook (rows_named db)
  pub numbered : AreNumbered (rows_named db)
  pub contents : AreContents (rows_named db)
  pub rules : KeepsRules (record { office = office; book = book_in (rows_named db) })

-- what is true of an office with its book that is refused so
abbrev pub RefusesWith : OfficeWithBook → OpenFault → Type 0
RefusesWith with_book (Foreign BrokenRules) = ¬ KeepsRules with_book
RefusesWith with_book (Foreign UnreadRow) = ⊥
RefusesWith with_book (Foreign OtherFigures) = ⊥
RefusesWith with_book (Foreign OtherForm) = ⊥
RefusesWith with_book (Foreign OtherTables) = ⊥
RefusesWith with_book Exists = ⊥
RefusesWith with_book _ = ⊤

-- what is true of a book's rows that are refused so
abbrev pub RefusesBook : Database → OpenFault → Type 0
RefusesBook db (Foreign UnreadRow) = ¬ StandForBook (rows_named db)
RefusesBook db (Foreign OtherFigures) = ⊥
RefusesBook db (Foreign BrokenRules) = ⊥
RefusesBook db (Foreign OtherForm) = ⊥
RefusesBook db (Foreign OtherTables) = ⊥
RefusesBook db Exists = ⊥
RefusesBook db _ = ⊤

-- what is true of an office and of a book's rows that are refused so together
abbrev pub RefusesKept : Office → Database → OpenFault → Type 0
RefusesKept office db (Foreign UnreadRow) = ¬ StandForBook (rows_named db)
RefusesKept office db fault = RefusesWith (record { office = office; book = book_in (rows_named db) }) fault

-- ---- the figures

-- what is true of rows of figures that are refused so
abbrev pub RefusesFigureRows : FigureRows → OpenFault → Type 0
RefusesFigureRows rows (Foreign UnreadRow) = votes_stand rows ≡ false
RefusesFigureRows rows (Foreign OtherFigures) = ⊥
RefusesFigureRows rows (Foreign BrokenRules) = ⊥
RefusesFigureRows rows (Foreign OtherForm) = ⊥
RefusesFigureRows rows (Foreign OtherTables) = ⊥
RefusesFigureRows rows Exists = ⊥
RefusesFigureRows rows _ = ⊤

-- what is true of an office and of rows of figures that are refused so together
abbrev pub RefusesShown : Office → FigureRows → OpenFault → Type 0
RefusesShown office rows (Foreign OtherFigures) = IsOffice office → ¬ ShowFigures (office_counts office) rows
RefusesShown office rows fault = RefusesFigureRows rows fault

-- the figures that tables keep are what counting gives, where this is their office
abbrev pub FiguresOf : Form → Office → Database → Type 0
FiguresOf (for_main false) office db = ⊤
FiguresOf (for_main true) office db = HoldFigures office (figures_of_main (rows_named db))
FiguresOf by_domain office db = HoldFigures office (rows_named db)

-- what is true of an office and of tables of a form whose figures are refused so
abbrev pub RefusesFigures : Form → Office → Database → OpenFault → Type 0
RefusesFigures form office db (Foreign UnreadRow) = ¬ StandForOfficeOf form (rows_named db)
RefusesFigures form office db (Foreign OtherFigures) = IsOffice office → ¬ FiguresOf form office db
RefusesFigures form office db (Foreign BrokenRules) = ⊥
RefusesFigures form office db (Foreign OtherForm) = ⊥
RefusesFigures form office db (Foreign OtherTables) = ⊥
RefusesFigures form office db Exists = ⊥
RefusesFigures form office db _ = ⊤

-- ---- the book and the figures

-- an office keeps the rules with the book of the rows, and the figures are its
pub record KeepsRows (form : Form) (office : Office) (db : Database) : Type 0 where
  pub book : KeepsBook office db
  pub figures : FiguresOf form office db

-- what is true of an office and of rows that are refused so together
abbrev pub RefusesKeptRows : Form → Office → Database → OpenFault → Type 0
RefusesKeptRows form office db (Foreign UnreadRow) = ¬ (StandForOfficeOf form (rows_named db) × StandForBook (rows_named db))
RefusesKeptRows form office db (Foreign OtherFigures) = ¬ FiguresOf form office db
RefusesKeptRows form office db fault = RefusesKept office db fault
