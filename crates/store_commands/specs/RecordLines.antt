-- What a writer took of the lines of records, whose rows a sink was handed. This project's own words.
use Rattle.std.specs.Prelude.{◌≡◌, ℕ, List, Option, false}
use Rattle.std.specs.Borrow.{MutBor}
use Rattle.sqlite.specs.Order.{Row}
use Rattle.sql_decoding.specs.RecordHeads.{is_head}
use Rattle.tables.specs.declared.faults.Lost.{Lost}
use Rattle.tables.specs.declared.faults.Lost.TheVariants as lost
use Rattle.store_sql.specs.declared.recorded.HandingFault.{HandingFault}
use Rattle.store_sql.specs.declared.recorded.HandingFault.TheVariants as handing
use Rattle.office.specs.Writers.{writer_at, TakesAll, TakesPart}
use Rattle.store_commands.specs.declared.records.RecordsFault.{RecordsFault}
use Rattle.store_commands.specs.declared.records.RecordsFault.TheVariants.{NoRecord, Device, Memory, Disk, Refused}
use Rattle.store_commands.specs.Records.{row_line, lines_of}

-- what tables that failed are told as
abbrev pub lost_told : Lost → RecordsFault
lost_told lost.Memory = Memory
lost_told lost.Disk = Disk
lost_told lost.Refused = Refused

abbrev pub fault_told : HandingFault RecordsFault → RecordsFault
fault_told handing.NoRecord = NoRecord
fault_told (handing.NoTables why) = lost_told why
fault_told (handing.NoSink fault) = fault

module _ {W : Type 0} (taken : W → Option (List ℕ)) (failed : W → ℕ) where
  -- The same writer took the lines of the rows.
  pub record TookLines (old : MutBor W) (rows : List Row) (new : MutBor W) : Type 0 where
    pub same_reference : new.ghost_name ≡ old.ghost_name
    pub lines : TakesAll (writer_at taken failed old.now) (writer_at taken failed new.now) (lines_of rows)

  -- why it took no line more: it failed in that line, or nothing was written, since memory ran out or the row shows no number and status
  abbrev pub IsRefusal : W → Row → RecordsFault → W → Type 0
  IsRefusal old row NoRecord new = ⊥
  IsRefusal old row Device new = TakesPart (writer_at taken failed old) (writer_at taken failed new) (row_line row)
  IsRefusal old row Memory new = new ≡ old
  IsRefusal old row Refused new = (is_head row ≡ false) × (new ≡ old)
  IsRefusal old row Disk new = (is_head row ≡ false) × (new ≡ old)

  pub record RefusedLine (old : MutBor W) (row : Row) (fault : RecordsFault) (new : MutBor W) : Type 0 where
    pub same_reference : new.ghost_name ≡ old.ghost_name
    pub refused : IsRefusal old.now row fault new.now
