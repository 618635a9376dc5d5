use Rattle.std.proofs.Common.{length}
use Rattle.client.proofs.LineLemmas.{Along}
use Rattle.client.proofs.list.requests_in.Given as goal

abbrev pub invariant-loop-line : goal.invariant-loop-line
invariant-loop-line l = Along l.text l.rest l.requests.items

abbrev pub decreases-loop-line : goal.decreases-loop-line
decreases-loop-line l = length l.rest
