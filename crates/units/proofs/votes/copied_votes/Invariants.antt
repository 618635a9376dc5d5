use Rattle.std.proofs.Common.{◌≡◌, take}
use Rattle.units.proofs.votes.copied_votes.Given as goal

abbrev pub invariant-loop-vote : goal.invariant-loop-vote
invariant-loop-vote l = l.all.items ≡ take l.vote-index l.votes
