use Rattle.std.proofs.Common.{rules}
use Rattle.http_messages.proofs.inbox.Inbox.asking.Goals as goal

pub returns-in-None-clause-asking : goal.returns-in-None-clause-asking
returns-in-None-clause-asking c = search rules
