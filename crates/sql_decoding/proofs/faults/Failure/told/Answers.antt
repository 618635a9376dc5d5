use Rattle.std.proofs.Common.{◌≡◌, refl, ap}
use Rattle.sqlite.specs.declared.error.Error.TheVariants.{SqliteFailure}
use Rattle.sqlite.specs.declared.error.ErrorCode.{ErrorCode}
use Rattle.sqlite.specs.declared.error.ErrorCode.TheVariants.{OutOfMemory}
use Rattle.sql_laws.specs.DiskErrors.{is_of_disk}
use Rattle.sql_decoding.proofs.DiskFailures.{memory_comes, disk_comes, refusal_comes, others_mild}
use Rattle.sql_decoding.proofs.faults.Failure.told.Goals as goal

pub returns-in-OutOfMemory : goal.returns-in-OutOfMemory
returns-in-OutOfMemory c = memory_comes (SqliteFailure c.args.code) _ (ap SqliteFailure c.in-OutOfMemory.is) refl

pub returns-in-SystemIoFailure : goal.returns-in-SystemIoFailure
returns-in-SystemIoFailure c = disk_comes (SqliteFailure c.args.code) _ (ap (λ (code : ErrorCode). is_of_disk (SqliteFailure code)) c.in-SystemIoFailure.is) refl

pub returns-in-DatabaseCorrupt : goal.returns-in-DatabaseCorrupt
returns-in-DatabaseCorrupt c = disk_comes (SqliteFailure c.args.code) _ (ap (λ (code : ErrorCode). is_of_disk (SqliteFailure code)) c.in-DatabaseCorrupt.is) refl

pub returns-in-DiskFull : goal.returns-in-DiskFull
returns-in-DiskFull c = disk_comes (SqliteFailure c.args.code) _ (ap (λ (code : ErrorCode). is_of_disk (SqliteFailure code)) c.in-DiskFull.is) refl

pub returns-in-Closed : goal.returns-in-Closed
returns-in-Closed c = disk_comes (SqliteFailure c.args.code) _ (ap (λ (code : ErrorCode). is_of_disk (SqliteFailure code)) c.in-Closed.is) refl

pub returns-in_default : goal.returns-in_default
returns-in_default c =
    refusal_comes (SqliteFailure c.args.code) _ (others_mild c.args.code c.in_default.not-SystemIoFailure c.in_default.not-DatabaseCorrupt c.in_default.not-DiskFull c.in_default.not-Closed)
    (λ same. c.in_default.not-OutOfMemory (let is : c.args.code ≡ OutOfMemory = cc in is)) refl
