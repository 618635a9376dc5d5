use Rattle.std.proofs.Common.{rules}
use Rattle.http_messages.proofs.head.whole_head.Goals as goal

pub returns-in_default-clause-none : goal.returns-in_default-clause-none
returns-in_default-clause-none c = search rules
