use Rattle.std.proofs.Common.{rules}
use Rattle.tables.proofs.faults.EachFault.number.Goals as goal

pub returns-in-NoSink : goal.returns-in-NoSink
returns-in-NoSink g c = search rules
