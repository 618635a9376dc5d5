use Rattle.std.proofs.Common.{rules}
use Rattle.po_write.proofs.strings.write_byte.Goals as goal

pub returns-in-Some : goal.returns-in-Some
returns-in-Some g c = search rules
