use Rattle.std.proofs.Common.{rules}
use Rattle.http_messages.proofs.head.Head.method.Goals as goal

pub returns : goal.returns
returns c = search rules
