-- A database that holds an office with its book, and what comes of opening one, of whichever form its tables are. This project's own words.
use Rattle.std.specs.Prelude.{◌≡◌, IsTrue}
use Rattle.sqlite.specs.Held.{Held, state}
use Rattle.sqlite.specs.Disk.{MoreFaults}
use Rattle.sqlite.specs.State.{State, HasCleanDisk}
use Rattle.sqlite_trees.specs.declared.store.Store as store
use Rattle.request_book.specs.Book.{OfficeWithBook}
use Rattle.sql_meaning.specs.Domains.{meaning_by_domain, DatabaseMeans, TreesMean}
use Rattle.sql_adoption.specs.Adoption.{IsAdopted, Refuses}
use Rattle.sql_conversion.specs.Conversion.{IsGivenBack}
use Rattle.sql_files.specs.Files.{IsOfficeFile, IsLost, KeepsFile, LeavesFiles}
use Rattle.sqlite.specs.Effect.{IsDatabase}
use Rattle.sqlite.specs.Tree.{Trees}
use Rattle.sql_adoption.specs.declared.faults.OpenFault.{OpenFault}
use Rattle.sql_adoption.specs.declared.faults.OpenFault.TheVariants.{Disk}
use Rattle.sql_schema.specs.Layouts.{rows_named}
use Rattle.sql_laws.specs.DiskErrors.{HasFailed}
use Rattle.tables.specs.Stops.{LeavesOnly}

-- what the rows of running tables mean, which are by domains
abbrev pub running_meaning : State → OfficeWithBook
running_meaning s = meaning_by_domain (rows_named s.now)

-- an opening may find this office with its book, after a stop
abbrev pub MayMean : State → OfficeWithBook → Type 0
MayMean s meaning = (trees : Trees) × s.may_leave trees × TreesMean trees meaning

-- While the disk has returned what was written, no failure has shut the connection, its rows mean this office with its book, and a stop
-- leaves it and no other.
pub record Holds (s : State) (meaning : OfficeWithBook) : Type 0 where
  pub is_open : HasCleanDisk s → IsTrue s.is_open
  pub means : HasCleanDisk s → running_meaning s ≡ meaning
  pub stops : HasCleanDisk s → (db : Trees) → s.may_leave db → TreesMean db meaning
  pub only : HasCleanDisk s → LeavesOnly (MayMean s) meaning

-- The rows were an office's with its book, in the form that the tables had, which is opened: tables without a column for a domain are converted, and
-- mean what they meant.
pub record IsOpened {S : Type 0} (g : store.Ghosts S) (old opened : Held S) : Type 0 where
  pub rows : HasCleanDisk (state g opened) → IsAdopted (state g old).now
  pub means : HasCleanDisk (state g opened) → DatabaseMeans (state g old).now (running_meaning (state g opened))
  pub holds : Holds (state g opened) (running_meaning (state g opened))

-- They weren't, or it couldn't be found out; the rows are as they were, and a stop leaves them or, where the disk failed in the commit of a conversion,
-- what it makes, which means the same. An office's file is refused for want of memory, a failed disk or a refused statement alone.
pub record IsUnopened {S : Type 0} (g : store.Ghosts S) (old new : Held S) (fault : OpenFault) : Type 0 where
  pub why : HasCleanDisk (state g new) → Refuses (state g old).now fault
  pub again : HasCleanDisk (state g new) → IsDatabase (state g old).now → IsOfficeFile (state g old).now.trees → IsLost fault
  pub disk : HasCleanDisk (state g new) → fault ≡ Disk → HasFailed (state g old) (state g new)
  pub same : IsGivenBack (state g old) (state g new)

-- Tables that a failed disk stopped: it failed or refused since they were opened.
abbrev pub StoppedTruly : Type 0 → State → State → Type 0
StoppedTruly Stopped opened new = HasCleanDisk new → Stopped → MoreFaults opened.faults new.faults

-- What a connection holds when work on it is done: an office's file, unless it is shut, and so is what a stop leaves, which means what the rows mean.
pub record IsClosed (s : State) : Type 0 where
  pub file : KeepsFile s
  pub leaves : LeavesFiles s
  pub settled : HasCleanDisk s → IsTrue s.is_open → (db : Trees) → s.may_leave db → TreesMean db (running_meaning s)
