-- What comes of work on the office in a database: it is opened, the work is done, and it is closed, as an office's file; or there is a fault, which
-- is told. This project's own rule.
use Rattle.std.specs.Prelude.{◌≡◌, ℕ}
use Rattle.sqlite.specs.Held.{Held, state}
use Rattle.sqlite_trees.specs.declared.store.Store as store
use Rattle.sql_adoption.specs.declared.faults.OpenFault.{OpenFault}
use Rattle.office.specs.Writers.{Writer}
use Rattle.store_commands.specs.Faults.{store_fault_line, TellsLine}
use Rattle.store_commands.specs.Opening.{IsOpened, IsUnopened, IsClosed}

-- `Done opened` says what the work did from the office that was opened, `Undone` that no tables were stopped, nothing was read and nothing printed.
pub data Ran {S : Type 0} (g : store.Ghosts S) (Done : Held S → Type 0) (Undone : Type 0) (old new : Held S) (faults_old faults_new : Writer) (status : ℕ) : Type 0 where
  worked : (opened : Held S) → IsOpened g old opened → Done opened → IsClosed (state g new)
      → Ran g Done Undone old new faults_old faults_new status
  refused : (fault : OpenFault) → IsUnopened g old new fault → Undone
      → TellsLine faults_old faults_new (store_fault_line fault) → status ≡ 1
      → Ran g Done Undone old new faults_old faults_new status
