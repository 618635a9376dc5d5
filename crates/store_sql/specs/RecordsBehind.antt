-- What a sink is handed of the records in the order in which the office took them, which is that of their rowids: a new row's is above all
-- others (SQLite, "Autoincrement in SQLite"), and a record's row is never changed nor taken away. This project's own rule.
use Rattle.std.specs.Prelude.{◌≡◌, ◌↔◌, ℤ, List, Option, Some, None, option_map, Result, Ok, Err, IfErr, true, IsTrue}
use Rattle.std.specs.List.{AllByRecursion}
use Rattle.sqlite.specs.Order.{Row}
use Rattle.sqlite.specs.Effect.{Database}
use Rattle.sqlite.specs.State.{State, HasCleanDisk}
use Rattle.po_text.specs.Texts.{Text}
use Rattle.request_book.specs.Words.{number_text}
use Rattle.sql_statements.specs.RecordsInOrder.{ShowsPlace, ShowsBehind}
use Rattle.sql_streams.specs.Walks.{GaveAll, GaveSome, GaveUpTo}
use Rattle.sql_streams.specs.declared.walking.WalkFault.{WalkFault}
use Rattle.sql_streams.specs.declared.walking.WalkFault.TheVariants.{NoRows, NoSink as RowRefused}
use Rattle.sql_meaning.specs.Values.{integer_at}
use Rattle.sql_decoding.specs.RecordHeads.{is_head}
use Rattle.sql_laws.specs.DiskErrors.{is_of_disk, HasFailed}
use Rattle.tables.specs.declared.faults.Lost.{Lost}
use Rattle.tables.specs.declared.faults.Lost.TheVariants.{Disk}
use Rattle.store_sql.specs.declared.recorded.HandingFault.{HandingFault}
use Rattle.store_sql.specs.declared.recorded.HandingFault.TheVariants.{NoRecord, NoTables, NoSink}

-- the place of the record of a number, if there is one
abbrev pub IsPlaceOf : Text → Database → Option ℤ → Type 0
IsPlaceOf number db place = (found : Option Row) × ShowsPlace (number_text number) db found × (place ≡ option_map (integer_at 0) found)

-- each shows a request's number and a reply's status
abbrev pub AreHeads : List Row → Type 0
AreHeads = AllByRecursion (λ row. is_head row ≡ true)

-- The rows of the records behind the record of a number, or of all where none is named, in order: number, status, place.
abbrev pub AreBehind : Option Text → Database → List Row → Type 0
AreBehind None db rows = ShowsBehind None db rows × AreHeads rows
AreBehind (Some number) db rows = (place : ℤ) × IsPlaceOf number db (Some place) × ShowsBehind (Some place) db rows × AreHeads rows

-- so the rows of records are that a connection shows which isn't shut
abbrev pub HoldsHeads : State → Type 0
HoldsHeads s = HasCleanDisk s → IsTrue s.is_open → (place : Option ℤ) (rows : List Row) → ShowsBehind place s.now rows → AreHeads rows

-- no record has the number that is named
abbrev pub HasNone : Option Text → Database → Type 0
HasNone None db = ⊥
HasNone (Some number) db = IsPlaceOf number db None

-- What a sink was handed before a fault: nothing where no record has the number, or the first of the rows.
abbrev pub WereCut : {K R : Type 0} → (K → List Row → K → Type 0) → (K → Row → R → K → Type 0) → Option Text → Database → K → K → HandingFault R → Type 0
WereCut Took Refuses after db first last NoRecord = HasNone after db × (last ≡ first)
WereCut Took Refuses after db first last (NoTables lost) = GaveSome Took (AreBehind after db) first last
WereCut Took Refuses after db first last (NoSink refusal) = GaveUpTo Took Refuses (AreBehind after db) first last refusal

-- what a walk that was cut short is told as: of the disk is told where the query's error does
abbrev pub IsTold : {R : Type 0} → WalkFault R → HandingFault R → Type 0
IsTold (NoRows error) told = (lost : Lost) × (told ≡ NoTables lost) × ((lost ≡ Disk) ↔ (is_of_disk error ≡ true))
IsTold (RowRefused refusal) told = told ≡ NoSink refusal

-- a fault that tells of the disk comes of a failure of it
abbrev pub HandsTruly : {R T : Type 0} → State → State → Result T (HandingFault R) → Type 0
HandsTruly old new result = HasCleanDisk new → IfErr result (λ fault. fault ≡ NoTables Disk → HasFailed old new)

-- all of the rows, or those before a fault
abbrev pub WereHanded : {K R T : Type 0} → (K → List Row → K → Type 0) → (K → Row → R → K → Type 0) → Option Text → Database → K → K → Result T (HandingFault R) → Type 0
WereHanded Took Refuses after db first last (Ok x) = GaveAll Took (AreBehind after db) first last
WereHanded Took Refuses after db first last (Err fault) = WereCut Took Refuses after db first last fault
