use Rattle.std.proofs.Common.{List, Option, sym, subst, ◌∙◌}
use Rattle.client.specs.Talks.{Said, Talked}
use Rattle.client.specs.TalkSteps.{IsPaid}
use Rattle.client.proofs.TalkLemmas.{talked_keeps, talked_more, paid_more}
use Rattle.client.proofs.sending.send_rounds.Goals as goal

pub returns-then-not-has_try : goal.returns-then-not-has_try
returns-then-not-has_try g c = λ are.
    let before = c.loop-round.invariant are in
    let kept = talked_keeps (IsPaid c.args.left.now c.loop-round.left) (g.L.Link.said c.args.link.now) (g.L.Link.said c.loop-round.link) c.args.sender.now c.loop-round.sender before ∙ are in
    talked_more (IsPaid c.args.left.now c.loop-round.left) (IsPaid c.loop-round.left c.send_round-is_answered.new.left) (IsPaid c.args.left.now c.send_round-is_answered.new.left)
    (g.L.Link.said c.args.link.now) (g.L.Link.said c.loop-round.link) (g.L.Link.said c.send_round-is_answered.new.link) c.args.sender.now c.loop-round.sender c.send_round-is_answered.new.sender
    (paid_more c.args.left.now c.loop-round.left c.send_round-is_answered.new.left) before (c.send_round-is_answered.ensures kept)

pub loop-round-preserved : goal.loop-round-preserved
loop-round-preserved g c = λ are.
    let before = c.loop-round.invariant are in
    let kept = talked_keeps (IsPaid c.args.left.now c.loop-round.left) (g.L.Link.said c.args.link.now) (g.L.Link.said c.loop-round.link) c.args.sender.now c.loop-round.sender before ∙ are in
    subst (λ (said : Option (List Said)). Talked (IsPaid c.args.left.now c.send_round-is_answered.new.left) (g.L.Link.said c.args.link.now) said c.args.sender.now c.send_round-is_answered.new.sender)
    (sym c.rest-pause.ensures.silent)
    (talked_more (IsPaid c.args.left.now c.loop-round.left) (IsPaid c.loop-round.left c.send_round-is_answered.new.left) (IsPaid c.args.left.now c.send_round-is_answered.new.left)
    (g.L.Link.said c.args.link.now) (g.L.Link.said c.loop-round.link) (g.L.Link.said c.send_round-is_answered.new.link) c.args.sender.now c.loop-round.sender c.send_round-is_answered.new.sender
    (paid_more c.args.left.now c.loop-round.left c.send_round-is_answered.new.left) before (c.send_round-is_answered.ensures kept))
