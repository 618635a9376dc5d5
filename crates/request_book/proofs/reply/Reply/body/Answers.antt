use Rattle.std.proofs.Common.{rules}
use Rattle.request_book.proofs.reply.Reply.body.Goals as goal

pub returns : goal.returns
returns c = search rules
