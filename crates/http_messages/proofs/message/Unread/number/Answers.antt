use Rattle.std.proofs.Common.{rules}
use Rattle.http_messages.proofs.message.Unread.number.Goals as goal

pub returns : goal.returns
returns c = search rules
