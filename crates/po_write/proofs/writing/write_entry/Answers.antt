use Rattle.std.proofs.Common.{rules}
use Rattle.po_write.proofs.writing.write_entry.Goals as goal

pub returns-in-Ok-clause-ok : goal.returns-in-Ok-clause-ok
returns-in-Ok-clause-ok g c = search rules
