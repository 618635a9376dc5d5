-- Which errors statements tell where nothing refuses them.
use Rattle.std.specs.Prelude.{◌≡◌, ◌⊎◌, ◌&&◌, ◌==◌, ℕ, nat_le, List, length, Bool, false, IsSome, Result, Ok, Err, IfErr}
use Rattle.sqlite.specs.State.{State, HasCleanDisk}
use Rattle.sqlite.specs.declared.error.Error.{Error}
use Rattle.sqlite.specs.declared.error.Error.TheVariants.{SqliteFailure}
use Rattle.sqlite.specs.declared.error.ErrorCode.TheVariants.{OutOfMemory, OperationInterrupted}
use Rattle.sqlite_resolve.specs.declared.compiled.Compiled.{Compiled}
use Rattle.sqlite_resolve.specs.declared.error.CompileError.{CompileError}
use Rattle.sql_laws.specs.DiskErrors.{HasFailed}

-- a text is one statement, with so many parameters
abbrev pub is_whole : List ℕ → ℕ → Result Compiled CompileError → Bool
is_whole text count (Ok c) = nat_le (length text) c.tail && (length c.names == count)
is_whole text count (Err e) = false

-- An error is want of memory, or the disk failed: nothing is refused.
abbrev pub RefusesNothing : {A : Type 0} → State → State → Result A Error → Type 0
RefusesNothing old new result = HasCleanDisk new → IfErr result (λ e. (e ≡ SqliteFailure OutOfMemory) ⊎ HasFailed old new)

-- want of memory, a failure of the disk, or a limit on the steps of a query that was met
abbrev pub IsUnread : State → State → Error → Type 0
IsUnread old new e = (e ≡ SqliteFailure OutOfMemory) ⊎ (HasFailed old new ⊎ ((e ≡ SqliteFailure OperationInterrupted) × IsSome old.step_limit))

-- An error of a read is one of these: no query is refused.
abbrev pub RefusesNoRead : {A : Type 0} → State → State → Result A Error → Type 0
RefusesNoRead old new result = HasCleanDisk new → IfErr result (IsUnread old new)
