use Rattle.std.proofs.Common.{rules}
use Rattle.po_write.proofs.fault.WriteFault.number.Goals as goal

pub returns-in-Memory : goal.returns-in-Memory
returns-in-Memory c = search rules
