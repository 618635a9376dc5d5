-- Which errors of a statement tell of the disk, and when it failed. This project's own words for what the kit's `sqlite` tells.
use Rattle.std.specs.Prelude.{◌≡◌, ◌⊎◌, Bool, true, false, Result, IfErr}
use Rattle.sqlite.specs.Disk.{MoreFaults}
use Rattle.sqlite.specs.declared.error.Error.{Error}
use Rattle.sqlite.specs.declared.error.Error.TheVariants.{SqliteFailure}
use Rattle.sqlite.specs.declared.error.ErrorCode.TheVariants.{SystemIoFailure, DatabaseCorrupt, DiskFull, Closed}
use Rattle.sqlite.specs.State.{State, HasCleanDisk}

-- a fault of the disk, a damaged file, a full disk, or a connection that an earlier failure has shut
abbrev pub is_of_disk : Error → Bool
is_of_disk (SqliteFailure SystemIoFailure) = true
is_of_disk (SqliteFailure DatabaseCorrupt) = true
is_of_disk (SqliteFailure DiskFull) = true
is_of_disk (SqliteFailure Closed) = true
is_of_disk _ = false

-- the disk failed or refused between two moments, or had failed before and shut the connection
abbrev pub HasFailed : State → State → Type 0
HasFailed old new = (old.is_open ≡ false) ⊎ MoreFaults old.faults new.faults

-- an error that tells of the disk comes of a failure of it
abbrev pub BlamesTruly : {A : Type 0} → State → State → Result A Error → Type 0
BlamesTruly old new result = HasCleanDisk new → IfErr result (λ e. is_of_disk e ≡ true → HasFailed old new)
