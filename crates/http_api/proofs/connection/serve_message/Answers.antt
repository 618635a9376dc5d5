use Rattle.std.proofs.Common.{◌≡◌, ℕ, List, [], true, refl, ap, ◌∙◌, drop}
use Rattle.std.specs.Prelude.{◌||◌}
use Rattle.std.proofs.Math.Seq.{drop-drop}
use Rattle.http_messages.specs.Arrivals.{asking_in}
use Rattle.office.specs.Writers.{writer_at}
use Rattle.http_api.specs.declared.connection.Next.{Next}
use Rattle.http_api.specs.ConnectionSteps.{next_of}
use Rattle.http_api.proofs.Counting.{tells_failures, failures_and, failures_then, on_ok_and}
use Rattle.http_api.proofs.Handing.{writes_handed, writes_and, ok_and, at_ok}
use Rattle.http_api.proofs.connection.serve_message.Goals as goal

pub returns-clause-answered : goal.returns-clause-answered
returns-clause-answered g c =
    let came = c.in_ok-last.ensures.answered in
    let last = (asking_in c.args.inbox.now c.args.lengths.head c.args.lengths.body).ends || c.args.full in
    let honest = g.T.Tables.is_honest c.answer_front.new.desk in
    let stopped = g.T.Tables.is_stopped c.answer_front.new.desk ≡ true in
    let old = writer_at g.W.ByteSink.taken g.W.ByteSink.failed c.args.w.now in
    let mid = writer_at g.W.ByteSink.taken g.W.ByteSink.failed c.answer_front.new.w in
    let new = writer_at g.W.ByteSink.taken g.W.ByteSink.failed c.hand_on.new.w in
    (came.0, came.1, writes_and honest stopped old new came.0 last last c.hand_on.result _ c.and.result c.and.ensures refl (writes_handed honest stopped old mid new came.0 last c.hand_on.result came.2 c.hand_on.ensures.told))

pub returns-clause-next : goal.returns-clause-next
returns-clause-next g c =
    let last = (asking_in c.args.inbox.now c.args.lengths.head c.args.lengths.body).ends || c.args.full in
    ok_and (λ (next : Next). next ≡ next_of last) c.hand_on.result c.next_of.result c.and.result c.and.ensures (c.next_of.ensures ∙ ap next_of c.in_ok-last.ensures.last)

pub returns-clause-behind : goal.returns-clause-behind
returns-clause-behind g c =
    at_ok _ c.and.result (c.take_off-2.ensures ∙ ap (λ (bytes : List ℕ). drop c.args.lengths.body bytes) c.take_off.ensures ∙ drop-drop c.args.lengths.body c.args.lengths.head c.args.inbox.now)

pub returns-clause-handed_on : goal.returns-clause-handed_on
returns-clause-handed_on g c = on_ok_and _ c.hand_on.result c.next_of.result c.and.result c.and.ensures c.hand_on.ensures.handed_on

pub returns-clause-failures : goal.returns-clause-failures
returns-clause-failures g c =
    let mid = writer_at g.W.ByteSink.taken g.W.ByteSink.failed c.answer_front.new.w in
    let new = writer_at g.W.ByteSink.taken g.W.ByteSink.failed c.hand_on.new.w in
    failures_then (g.T.Tables.is_stopped c.answer_front.new.desk ≡ true) (g.W.ByteSink.failed c.args.w.now) mid.failed new.failed c.and.result c.in_ok-last.ensures.failures
    (failures_and (g.T.Tables.is_stopped c.answer_front.new.desk ≡ true) mid.failed new.failed c.hand_on.result c.next_of.result c.and.result c.and.ensures (tells_failures (g.T.Tables.is_stopped c.answer_front.new.desk ≡ true) mid new [] c.hand_on.result c.hand_on.ensures.told))
