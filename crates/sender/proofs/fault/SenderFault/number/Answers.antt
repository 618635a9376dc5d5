use Rattle.std.proofs.Common.{rules}
use Rattle.sender.proofs.fault.SenderFault.number.Goals as goal

pub returns : goal.returns
returns c = search rules
