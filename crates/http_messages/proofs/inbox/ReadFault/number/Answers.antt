use Rattle.std.proofs.Common.{rules}
use Rattle.http_messages.proofs.inbox.ReadFault.number.Goals as goal

pub returns-in-Memory : goal.returns-in-Memory
returns-in-Memory c = search rules
