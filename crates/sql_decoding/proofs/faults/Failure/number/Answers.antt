use Rattle.std.proofs.Common.{rules}
use Rattle.sql_decoding.proofs.faults.Failure.number.Goals as goal

pub returns : goal.returns
returns c = search rules
