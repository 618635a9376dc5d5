-- What a sink took of some entries: all of them, or all but the last, or a beginning.
use Rattle.std.specs.Prelude.{◌≡◌, ◌≢◌, ◌↔◌, true, List, [], ◌∷◌, ◌++◌, Result, MatchResult, IfErr}
use Rattle.sqlite.specs.State.{State, HasCleanDisk}
use Rattle.sqlite.specs.declared.error.Error.TheVariants.{SqliteFailure}
use Rattle.sqlite.specs.declared.error.ErrorCode.TheVariants.{OutOfMemory}
use Rattle.po_text.specs.declared.entry.Entry.{Entry}
use Rattle.tables.specs.declared.faults.EachFault.{EachFault}
use Rattle.tables.specs.declared.faults.EachFault.TheVariants.{NoTables, NoSink}
use Rattle.tables.specs.declared.faults.Lost.{Lost}
use Rattle.tables.specs.declared.faults.Lost.TheVariants.{Memory, Disk}
use Rattle.sql_laws.specs.DiskErrors.{is_of_disk, HasFailed}
use Rattle.sql_streams.specs.declared.walking.WalkFault.{WalkFault}
use Rattle.sql_streams.specs.declared.walking.WalkFault.TheVariants.{NoRows, NoSink as RowRefused}
use Rattle.tables.specs.Sinks.{WasCutShort}

abbrev pub Gives : {S R T : Type 0} → (S → List Entry → S → Type 0) → (S → Entry → R → S → Type 0) → S → S → List Entry → Result T (EachFault R) → Type 0
Gives Took Refuses old new entries outcome = MatchResult outcome (λ _. Took old entries new) (WasCutShort Took Refuses old new entries)

-- The sink took all of the entries but the last, which is this.
pub record TookAllBut {S : Type 0} (Took : S → List Entry → S → Type 0) (old new : S) (entries : List Entry) (last : Entry) : Type 0 where
  pub front : List Entry
  pub whole : entries ≡ front ++ last ∷ []
  pub took : Took old front new

-- all but the last, which is held back
abbrev pub GivesAllBut : {S R T : Type 0} → (S → List Entry → S → Type 0) → (S → Entry → R → S → Type 0) → S → S → List Entry → Entry → Result T (EachFault R) → Type 0
GivesAllBut Took Refuses old new entries last outcome = MatchResult outcome (λ _. TookAllBut Took old new entries last) (WasCutShort Took Refuses old new entries)

-- what a walk that was cut short is told as: want of memory is told so, and no other failure of the query; and of the disk is told where the
-- query's error does, and of no row
abbrev pub IsTold : {R : Type 0} → WalkFault (EachFault R) → EachFault R → Type 0
IsTold (NoRows error) told = (lost : Lost) × (told ≡ NoTables lost) × ((lost ≡ Memory) ↔ (error ≡ SqliteFailure OutOfMemory)) × ((lost ≡ Disk) ↔ (is_of_disk error ≡ true))
IsTold (RowRefused (NoTables lost)) told = (seen : Lost) × (told ≡ NoTables seen) × (seen ≢ Disk)
IsTold (RowRefused (NoSink refusal)) told = told ≡ NoSink refusal

-- a fault that tells of the disk comes of a failure of it
abbrev pub CutsTruly : {R T : Type 0} → State → State → Result T (EachFault R) → Type 0
CutsTruly old new result = HasCleanDisk new → IfErr result (λ fault. fault ≡ NoTables Disk → HasFailed old new)
