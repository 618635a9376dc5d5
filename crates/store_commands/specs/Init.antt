-- What comes of `office init`, in the database, on the two outputs and in the exit status. This project's own rule.
use Rattle.std.specs.Prelude.{◌≡◌, ◌≢◌, ◌⊎◌, ℕ, List, [], codes}
use Rattle.sqlite.specs.Held.{Held, state}
use Rattle.sqlite.specs.State.{HasCleanDisk}
use Rattle.sqlite_trees.specs.declared.store.Store as store
use Rattle.tables.specs.Starts.{started}
use Rattle.tables.specs.declared.start.Start.{Start}
use Rattle.sql_schema.specs.Schema.{no_schema}
use Rattle.sql_adoption.specs.declared.faults.OpenFault.{OpenFault}
use Rattle.sql_adoption.specs.declared.faults.OpenFault.TheVariants.{Disk}
use Rattle.sql_files.specs.Files.{KeepsFile, LeavesFiles}
use Rattle.store_sql.specs.Faults.{RefusesIn}
use Rattle.store_sql.specs.Making.{IsHandedBack}
use Rattle.office.specs.Writers.{Writer, TakesAll, TakesPart}
use Rattle.store_commands.specs.Faults.{store_fault_line, TellsLine}
use Rattle.store_commands.specs.Opening.{Holds}
use Rattle.sql_laws.specs.DiskErrors.{HasFailed}

abbrev pub ready_line : List ℕ
ready_line = codes "ready\n"

-- The database had nothing in it, and holds the office of a start, of which nothing is recorded; it is an office's file, and so is what a stop
-- leaves.
pub record IsMade {S : Type 0} (g : store.Ghosts S) (start : Start) (old new : Held S) : Type 0 where
  pub was_empty : (state g old).now.schema ≡ no_schema
  pub holds : Holds (state g new) (started start)
  pub file : KeepsFile (state g new)
  pub leaves : LeavesFiles (state g new)

-- No tables were made, for this reason. A database that has something in it isn't touched.
pub record IsUnmade {S : Type 0} (g : store.Ghosts S) (start : Start) (old new : Held S) (fault : OpenFault) : Type 0 where
  pub why : RefusesIn (state g old).now.schema fault
  pub untouched : (state g old).now.schema ≢ no_schema → new ≡ old
  pub disk : HasCleanDisk (state g new) → fault ≡ Disk → HasFailed (state g old) (state g new)
  pub same : IsHandedBack start (state g old) (state g new)

-- `ready` is printed, or a write failed behind a beginning of it
abbrev pub Said : Writer → Writer → ℕ → Type 0
Said old new status = (TakesAll old new ready_line × (status ≡ 0)) ⊎ (TakesPart old new ready_line × (status ≡ 1))

-- What came of it:
pub data Initialised {S : Type 0} (g : store.Ghosts S) (start : Start) (old new : Held S) (faults_old faults_new : Writer) (status : ℕ) : Type 0 where
  -- the tables are made;
  made : IsMade g start old new → TakesAll faults_old faults_new [] → status ≡ 0
      → Initialised g start old new faults_old faults_new status
  -- or there is a fault, which is told.
  refused : (fault : OpenFault) → IsUnmade g start old new fault
      → TellsLine faults_old faults_new (store_fault_line fault) → status ≡ 1
      → Initialised g start old new faults_old faults_new status
