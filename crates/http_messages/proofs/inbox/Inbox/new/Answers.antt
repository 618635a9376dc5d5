use Rattle.std.proofs.Common.{rules}
use Rattle.http_messages.proofs.inbox.Inbox.new.Goals as goal

pub returns : goal.returns
returns c = search rules
