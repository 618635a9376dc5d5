-- Which failures tell of the disk, and that it failed then. This project's own words.
use Rattle.std.specs.Prelude.{◌≡◌, ◌↔◌, true, Result, IfErr}
use Rattle.sqlite.specs.State.{State, HasCleanDisk}
use Rattle.sqlite.specs.declared.error.Error.{Error}
use Rattle.sqlite.specs.declared.error.Error.TheVariants.{SqliteFailure}
use Rattle.sqlite.specs.declared.error.ErrorCode.TheVariants.{OutOfMemory}
use Rattle.sql_laws.specs.DiskErrors.{is_of_disk, HasFailed}
use Rattle.tables.specs.declared.faults.Lost.TheVariants.{Memory, Disk}
use Rattle.sql_decoding.specs.declared.faults.Failure.{Failure}

-- What a statement's error comes to: want of memory alone is told so, and of the disk is told where the error does.
pub record IsOfError (error : Error) (failure : Failure) : Type 0 where
  pub memory : (failure.lost ≡ Memory) ↔ (error ≡ SqliteFailure OutOfMemory)
  pub disk : (failure.lost ≡ Disk) ↔ (is_of_disk error ≡ true)

-- a failure that tells of the disk comes of a failure of it
abbrev pub FailsTruly : {A : Type 0} → State → State → Result A Failure → Type 0
FailsTruly old new result = HasCleanDisk new → IfErr result (λ failure. failure.lost ≡ Disk → HasFailed old new)
