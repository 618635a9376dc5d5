-- How a transaction ends behind what was written in it. Only private clauses and proofs cite this file.
use Rattle.std.specs.Prelude.{◌≡◌, ◌⊎◌, false, Result, OnOk, OnErr, IfErr, IsErrAnd}
use Rattle.std.specs.Result.{IsErr}
use Rattle.sqlite.specs.Held.{Held, state}
use Rattle.sqlite.specs.State.{State, HasCleanDisk, Shows, IsRolledBack, Survives}
use Rattle.sqlite.specs.Steps.{FailsToCommit}
use Rattle.sqlite.specs.declared.error.Error.{Error}
use Rattle.sqlite_trees.specs.declared.store.Store as store
use Rattle.sql_laws.specs.DiskErrors.{HasFailed}
use Rattle.tables.specs.declared.faults.Lost.TheVariants.{Disk}
use Rattle.sql_decoding.specs.declared.faults.Failure.{Failure}

-- Where all was written, it is committed, or the commit fails; a crash leaves what it left before, or what was written. Where a write
-- failed, that is told, and all is undone.
pub record Finishes {S : Type 0} (g : store.Ghosts S) {A B E F : Type 0} (mid last : Held S) (written : Result A E) (result : Result B F) : Type 0 where
  pub commits : OnOk written (OnOk result (HasCleanDisk (state g last) → Shows (state g mid) (state g last) (state g mid).now (state g mid).now false))
  pub fails : OnOk written (OnErr result ((cause : Error) × (HasCleanDisk (state g last) → FailsToCommit (state g mid) (state g last) cause)))
  pub left : OnOk written (Survives (state g mid) (state g last) (λ db. db ≡ (state g mid).now.trees))
  pub told : OnErr written (IsErr result)
  pub undone : OnErr written ((HasCleanDisk (state g last) → IsRolledBack (state g mid) (state g last)) × Survives (state g mid) (state g last) (λ _. ⊥))

-- a failure that tells of the disk is that of what was written, or the disk failed in the commit
abbrev pub EndsTruly : {A B : Type 0} → State → State → Result A Failure → Result B Failure → Type 0
EndsTruly mid last written result = HasCleanDisk last → IfErr result (λ failure. failure.lost ≡ Disk → IsErrAnd written (λ cause. cause.lost ≡ Disk) ⊎ HasFailed mid last)
