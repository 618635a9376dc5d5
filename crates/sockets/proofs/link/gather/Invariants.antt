use Rattle.std.proofs.Common.{◌≤◌, length}
use Rattle.sockets.specs.Links.{answer_limit}
use Rattle.sockets.proofs.link.gather.Given as goal

abbrev pub invariant-loop-reads : goal.invariant-loop-reads
invariant-loop-reads g l = length l.answer.items ≤ answer_limit
