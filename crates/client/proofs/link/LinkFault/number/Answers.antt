use Rattle.std.proofs.Common.{rules}
use Rattle.client.proofs.link.LinkFault.number.Goals as goal

pub returns : goal.returns
returns c = search rules
