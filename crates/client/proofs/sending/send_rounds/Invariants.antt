use Rattle.std.proofs.Common.{◌≡◌}
use Rattle.client.specs.Talks.{Talked, requests_of}
use Rattle.client.specs.TalkSteps.{IsPaid}
use Rattle.client.proofs.sending.send_rounds.Given as goal

abbrev pub invariant-loop-round : goal.invariant-loop-round
invariant-loop-round g l = requests_of l.fn.sender ≡ l.fn.requests → Talked (IsPaid l.fn.left l.left) (g.L.Link.said l.fn.link) (g.L.Link.said l.link) l.fn.sender l.sender
