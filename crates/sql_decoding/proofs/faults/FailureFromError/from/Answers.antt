use Rattle.std.proofs.Common.{refl}
use Rattle.sqlite.specs.declared.error.ErrorCode.TheVariants.{OutOfMemory}
use Rattle.sql_decoding.proofs.DiskFailures.{no_failure_mild, refusal_comes}
use Rattle.sql_decoding.proofs.faults.FailureFromError.from.Goals as goal

pub returns-in-SqliteFailure : goal.returns-in-SqliteFailure
returns-in-SqliteFailure c = rw c.in-SqliteFailure.is c.told.ensures

pub returns-in_default : goal.returns-in_default
returns-in_default c = refusal_comes c.args.error _ (no_failure_mild c.args.error c.in_default.not-SqliteFailure) (c.in_default.not-SqliteFailure OutOfMemory) refl
