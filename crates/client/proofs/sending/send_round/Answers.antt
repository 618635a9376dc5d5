use Rattle.std.proofs.Common.{List, ℕ, length, refl, sym, subst, ◌∙◌}
use Rattle.std.proofs.lemmas.Option.{slice_get_read}
use Rattle.client.specs.Talks.{Talked}
use Rattle.client.specs.TalkSteps.{IsPaid}
use Rattle.client.proofs.TalkLemmas.{talked_keeps, talked_more, paid_more, sent_talked}
use Rattle.client.proofs.sending.send_round.Goals as goal

pub loop-place-preserved-then-not-takes_try : goal.loop-place-preserved-then-not-takes_try
loop-place-preserved-then-not-takes_try g c = λ are.
    subst (λ (left : List ℕ). Talked (IsPaid c.args.left.now left) (g.L.Link.said c.args.link.now) (g.L.Link.said c.loop-place.link) c.args.sender.now c.loop-place.sender)
    (sym (c.takes_try.ensures.none c.if-not-takes_try.true)) (c.loop-place.invariant are)

pub loop-place-preserved : goal.loop-place-preserved
loop-place-preserved g c = λ are.
    let requests = c.args.requests.now in
    let before = c.loop-place.invariant are in
    let kept = talked_keeps (IsPaid c.args.left.now c.loop-place.left) (g.L.Link.said c.args.link.now) (g.L.Link.said c.loop-place.link) c.args.sender.now c.loop-place.sender before ∙ are in
    let there = slice_get_read requests (length requests) c.loop-place.place c.index-requests-place.result refl c.loop-place-test.true c.index-requests-place.is in
    let next = sent_talked c.loop-place.left c.takes_try.new.left (g.L.Link.said c.loop-place.link) (g.L.Link.said c.send_one.new.link) c.loop-place.sender c.send_one.new.sender requests
    c.loop-place.place c.index-requests-place.result (c.takes_try.ensures.taken c.if-not-takes_try.false) kept there (c.takes_try.ensures.ready c.if-not-takes_try.false) c.send_one.ensures in
    talked_more (IsPaid c.args.left.now c.loop-place.left) (IsPaid c.loop-place.left c.takes_try.new.left) (IsPaid c.args.left.now c.takes_try.new.left)
    (g.L.Link.said c.args.link.now) (g.L.Link.said c.loop-place.link) (g.L.Link.said c.send_one.new.link) c.args.sender.now c.loop-place.sender c.send_one.new.sender
    (paid_more c.args.left.now c.loop-place.left c.takes_try.new.left) before next
