use Rattle.std.proofs.Common.{rules}
use Rattle.http_messages.proofs.head.Head.body_length.Goals as goal

pub returns-in-None-values : goal.returns-in-None-values
returns-in-None-values c = search rules

pub returns-in-Some : goal.returns-in-Some
returns-in-Some c = search rules
