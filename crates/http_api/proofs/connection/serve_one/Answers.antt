use Rattle.std.proofs.Common.{◌≡◌, true, refl}
use Rattle.tables.specs.RunsOn.{RunsSince}
use Rattle.office.specs.Writers.{writer_at}
use Rattle.http_api.specs.Answering.{WroteBeginning}
use Rattle.http_api.specs.Answers.{refusal_text}
use Rattle.http_api.proofs.Counting.{tells_failures, hands_still, hands_on, answered_step, unread_step}
use Rattle.http_api.proofs.Stepping.{nothing_left, read_off, message_step, refused_step}
use Rattle.http_api.proofs.connection.serve_one.Goals as goal

pub returns-in_err-message_behind-clause-stepped : goal.returns-in_err-message_behind-clause-stepped
returns-in_err-message_behind-clause-stepped g c =
    read_off _ _ _ (λ f o last. g.T.Tables.is_honest c.args.desk.now → WroteBeginning (g.T.Tables.is_stopped c.args.desk.now ≡ true) (writer_at g.W.ByteSink.taken g.W.ByteSink.failed c.args.w.now) (writer_at g.W.ByteSink.taken g.W.ByteSink.failed c.args.w.now) o last f)
    (g.R.MessagesBehind.left c.args.source.now) (g.R.MessagesBehind.left c.message_behind.new.self) (g.R.MessagesBehind.failed c.args.source.now) (g.R.MessagesBehind.failed c.message_behind.new.self)
    c.args.inbox.now c.args.full c.from_residual.result c.in_err-message_behind.field-0.0 c.from_residual.ensures.1 (refl, refl) c.in_err-message_behind.ensures.fault

pub returns-in-End-clause-stepped : goal.returns-in-End-clause-stepped
returns-in-End-clause-stepped g c =
    nothing_left (g.R.MessagesBehind.left c.args.source.now) (g.R.MessagesBehind.left c.message_behind.new.self) (g.R.MessagesBehind.failed c.args.source.now) (g.R.MessagesBehind.failed c.message_behind.new.self)
    c.args.inbox.now c.message_behind.new.inbox c.in_ok-message_behind.field-0 c.in-End.is c.in_ok-message_behind.ensures.read c.in_ok-message_behind.ensures.arrives (refl, refl)

pub returns-in-Refused-clause-stepped : goal.returns-in-Refused-clause-stepped
returns-in-Refused-clause-stepped g c =
    refused_step (λ since. RunsSince g.T.Tables.is_honest g.T.Tables.is_whole g.T.Tables.faults g.T.Tables.is_stopped since c.args.desk.now) (g.T.Tables.may_leave c.args.desk.now) _ (g.T.Tables.is_honest c.args.desk.now) (g.T.Tables.is_whole c.args.desk.now) (g.T.Tables.means c.args.desk.now) (g.T.Tables.is_stopped c.args.desk.now ≡ true)
    (g.R.MessagesBehind.left c.args.source.now) (g.R.MessagesBehind.left c.message_behind.new.self) (g.R.MessagesBehind.failed c.args.source.now) (g.R.MessagesBehind.failed c.message_behind.new.self)
    c.args.inbox.now c.message_behind.new.inbox c.message_behind.new.inbox c.args.full (writer_at g.W.ByteSink.taken g.W.ByteSink.failed c.args.w.now) (writer_at g.W.ByteSink.taken g.W.ByteSink.failed c.refuse.new.w)
    c.in_ok-message_behind.field-0 c.in-Refused.refusal c.refuse.result c.in-Refused.is c.in_ok-message_behind.ensures.read c.in_ok-message_behind.ensures.wanted c.in_ok-message_behind.ensures.arrives c.refuse.ensures.told c.refuse.ensures.next

pub returns-in-Message-clause-stepped : goal.returns-in-Message-clause-stepped
returns-in-Message-clause-stepped g c =
    let came = c.serve_message.ensures.answered in
    message_step _ _ (g.T.Tables.is_honest c.serve_message.new.desk) (g.T.Tables.is_stopped c.serve_message.new.desk ≡ true)
    (g.R.MessagesBehind.left c.args.source.now) (g.R.MessagesBehind.left c.message_behind.new.self) (g.R.MessagesBehind.failed c.args.source.now) (g.R.MessagesBehind.failed c.message_behind.new.self)
    c.args.inbox.now c.message_behind.new.inbox c.serve_message.new.inbox c.args.full (writer_at g.W.ByteSink.taken g.W.ByteSink.failed c.args.w.now) (writer_at g.W.ByteSink.taken g.W.ByteSink.failed c.serve_message.new.w)
    c.in_ok-message_behind.field-0 c.in-Message.lengths c.serve_message.result c.in-Message.is c.in_ok-message_behind.ensures.read c.in_ok-message_behind.ensures.wanted c.in_ok-message_behind.ensures.arrives
    came.0 came.1 came.2 c.serve_message.ensures.next c.serve_message.ensures.behind

pub returns-in_err-message_behind-clause-handed_on : goal.returns-in_err-message_behind-clause-handed_on
returns-in_err-message_behind-clause-handed_on g c = hands_still (g.W.ByteSink.holds_back c.args.w.now) c.from_residual.result c.requires.handed_on

pub returns-in_err-message_behind-clause-failures : goal.returns-in_err-message_behind-clause-failures
returns-in_err-message_behind-clause-failures g c =
    unread_step (g.T.Tables.is_stopped c.args.desk.now ≡ true) (g.R.MessagesBehind.failed c.args.source.now) (g.R.MessagesBehind.failed c.message_behind.new.self) (g.W.ByteSink.failed c.args.w.now) (g.W.ByteSink.failed c.args.w.now)
    c.from_residual.result c.in_err-message_behind.field-0.0 c.from_residual.ensures.1 c.in_err-message_behind.ensures.fault

pub returns-in-Refused-clause-handed_on : goal.returns-in-Refused-clause-handed_on
returns-in-Refused-clause-handed_on g c =
    let old = writer_at g.W.ByteSink.taken g.W.ByteSink.failed c.args.w.now in
    let new = writer_at g.W.ByteSink.taken g.W.ByteSink.failed c.refuse.new.w in
    hands_on (g.T.Tables.is_stopped c.args.desk.now ≡ true) (g.W.ByteSink.holds_back c.refuse.new.w) old.failed new.failed c.refuse.result c.refuse.ensures.handed_on
    (tells_failures (g.T.Tables.is_stopped c.args.desk.now ≡ true) old new (refusal_text c.in-Refused.refusal true) c.refuse.result c.refuse.ensures.told)

pub returns-in-Refused-clause-failures : goal.returns-in-Refused-clause-failures
returns-in-Refused-clause-failures g c =
    let old = writer_at g.W.ByteSink.taken g.W.ByteSink.failed c.args.w.now in
    let new = writer_at g.W.ByteSink.taken g.W.ByteSink.failed c.refuse.new.w in
    answered_step (g.T.Tables.is_stopped c.args.desk.now ≡ true) (g.R.MessagesBehind.failed c.args.source.now) (g.R.MessagesBehind.failed c.message_behind.new.self) old.failed new.failed c.refuse.result
    (tells_failures (g.T.Tables.is_stopped c.args.desk.now ≡ true) old new (refusal_text c.in-Refused.refusal true) c.refuse.result c.refuse.ensures.told)

pub returns-in-Message-clause-handed_on : goal.returns-in-Message-clause-handed_on
returns-in-Message-clause-handed_on g c =
    hands_on (g.T.Tables.is_stopped c.serve_message.new.desk ≡ true) (g.W.ByteSink.holds_back c.serve_message.new.w) (g.W.ByteSink.failed c.args.w.now) (g.W.ByteSink.failed c.serve_message.new.w) c.serve_message.result
    c.serve_message.ensures.handed_on c.serve_message.ensures.failures

pub returns-in-Message-clause-failures : goal.returns-in-Message-clause-failures
returns-in-Message-clause-failures g c =
    answered_step (g.T.Tables.is_stopped c.serve_message.new.desk ≡ true) (g.R.MessagesBehind.failed c.args.source.now) (g.R.MessagesBehind.failed c.message_behind.new.self) (g.W.ByteSink.failed c.args.w.now) (g.W.ByteSink.failed c.serve_message.new.w) c.serve_message.result c.serve_message.ensures.failures
