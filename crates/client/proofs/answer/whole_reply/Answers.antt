use Rattle.std.proofs.Common.{◌≤◌, length}
use Rattle.client.proofs.AnswerLemmas.{whole, no_reply}
use Rattle.client.proofs.answer.whole_reply.Goals as goal

pub returns-in-Ok-Complete-clause-some : goal.returns-in-Ok-Complete-clause-some
returns-in-Ok-Complete-clause-some c =
    let within = rw c.in-Ok-Complete.field-0-is at c.in-Ok-Complete.ensures.within in
    let fits : c.in-Ok-Complete.head.headers ≤ length c.parse_response.new.headers = within.section.count_fits in
    whole c.args.answer.now c.parse_response.new.headers c.in-Ok-Complete.head c.reply_behind.result (rw c.in-Ok-Complete.field-0-is at c.in-Ok-Complete.ensures.complete) fits c.parse_response.auto.headers c.reply_behind.ensures.some

pub returns-in-Ok-Complete-clause-none : goal.returns-in-Ok-Complete-clause-none
returns-in-Ok-Complete-clause-none c =
    no_reply c.args.answer.now c.parse_response.new.headers c.in-Ok-Complete.head c.reply_behind.result (rw c.in-Ok-Complete.field-0-is at c.in-Ok-Complete.ensures.found) c.reply_behind.ensures.none
