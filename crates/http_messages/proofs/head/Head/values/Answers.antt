use Rattle.std.proofs.Common.{rules}
use Rattle.http_messages.proofs.head.Head.values.Goals as goal

pub returns : goal.returns
returns c = search rules
