use Rattle.http_messages.proofs.FrontLemmas.{head_found}
use Rattle.std.proofs.Common.{rules, arith}
use Rattle.std.proofs.lemmas.Grind.{common_steps}
use Rattle.http_messages.proofs.inbox.Inbox.head_end.Goals as goal

pub returns-clause-cut : goal.returns-clause-cut
returns-clause-cut c = head_found c.args.self.now c.min-limit.result c.head_length.result (grind (arith, common_steps)) (search rules) (search rules)
