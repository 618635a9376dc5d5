-- What `office records` prints of an office's file, on the two outputs and in the exit status. This project's own rule.
use Rattle.std.specs.Prelude.{◌≡◌, ◌⊎◌, ℕ, List, [], ◌++◌, flat_map, Option, Result, Ok, Err, codes}
use Rattle.sqlite.specs.Order.{Row}
use Rattle.sqlite.specs.Effect.{Database}
use Rattle.po_text.specs.Texts.{Text}
use Rattle.request_book.specs.Words.{number_text}
use Rattle.sql_decoding.specs.RecordHeads.{shown_head}
use Rattle.store_sql.specs.RecordsBehind.{AreBehind, HasNone}
use Rattle.office.specs.Writers.{Writer, TakesAll, TakesPart}
use Rattle.commands.specs.RecordLines.{record_line}
use Rattle.store_commands.specs.declared.records.RecordsFault.{RecordsFault}
use Rattle.store_commands.specs.declared.records.RecordsFault.TheVariants.{NoRecord, Device, Memory, Disk, Refused}
use Rattle.store_commands.specs.Faults.{TellsLine}

-- the line of a record whose row shows its number and its status
abbrev pub row_line : Row → List ℕ
row_line row = record_line (number_text (shown_head row).number) (shown_head row).status

abbrev pub lines_of : List Row → List ℕ
lines_of = flat_map row_line

-- a line `records fault K`
abbrev pub records_fault_line : RecordsFault → List ℕ
records_fault_line NoRecord = codes "records fault 1\n"
records_fault_line Device = codes "records fault 2\n"
records_fault_line Memory = codes "records fault 3\n"
records_fault_line Disk = codes "records fault 4\n"
records_fault_line Refused = codes "records fault 5\n"

-- The writer took the line of each record behind the one that is named, or of each where none is, in the order in which the office took them.
pub record AllPrinted (after : Option Text) (db : Database) (old new : Writer) : Type 0 where
  pub rows : List Row
  pub are : AreBehind after db rows
  pub taken : TakesAll old new (lines_of rows)

-- It took a beginning of these lines.
pub record SomePrinted (after : Option Text) (db : Database) (old new : Writer) : Type 0 where
  pub front : List Row
  pub rest : List Row
  pub are : (front ≡ []) ⊎ AreBehind after db (front ++ rest)
  pub taken : TakesAll old new (lines_of front)

-- It failed in one of them, or behind the last, when they were to be handed on.
pub record DeviceFailed (after : Option Text) (db : Database) (old new : Writer) : Type 0 where
  pub rows : List Row
  pub are : AreBehind after db rows
  pub taken : TakesPart old new (lines_of rows)

-- What each fault says: no record has the number, and nothing was written; or the writer failed behind a beginning of the lines; or memory ran
-- out, the disk failed or the file refused behind the lines of the first records.
abbrev pub WereCut : Option Text → Database → Writer → Writer → RecordsFault → Type 0
WereCut after db old new NoRecord = HasNone after db × (new ≡ old)
WereCut after db old new Device = DeviceFailed after db old new
WereCut after db old new Memory = SomePrinted after db old new
WereCut after db old new Disk = SomePrinted after db old new
WereCut after db old new Refused = SomePrinted after db old new

-- all lines were printed, or a fault cut them short
abbrev pub ArePrinted : {T : Type 0} → Option Text → Database → Writer → Writer → Result T RecordsFault → Type 0
ArePrinted after db old new (Ok x) = AllPrinted after db old new
ArePrinted after db old new (Err fault) = WereCut after db old new fault

-- The same with what is told on the second output. That the disk failed is told where the tables were stopped alone.
pub data Printed (Honest Gone : Type 0) (after : Option Text) (db : Database) (out_old out_new faults_old faults_new : Writer) (status : ℕ) : Type 0 where
  printed : (Honest → AllPrinted after db out_old out_new) → TakesAll faults_old faults_new [] → status ≡ 0
      → Printed Honest Gone after db out_old out_new faults_old faults_new status
  cut : (fault : RecordsFault) → (Honest → WereCut after db out_old out_new fault) → (Honest → fault ≡ Disk → Gone) → TellsLine faults_old faults_new (records_fault_line fault) → status ≡ 1
      → Printed Honest Gone after db out_old out_new faults_old faults_new status
