use Rattle.std.proofs.Common.{rules}
use Rattle.office.proofs.faults.ExportFault.number.Goals as goal

pub returns : goal.returns
returns c = search rules
