use Rattle.rule_tests.proofs.BookTests.{noted}
use Rattle.rule_tests.proofs.book_rules.note_status.Goals as goal

pub returns : goal.returns
returns c = λ book are. noted book c.args.statuses.now c.insert.new.self c.args.known.now c.status.result are c.status.ensures c.in_ok-before.ensures.updates
