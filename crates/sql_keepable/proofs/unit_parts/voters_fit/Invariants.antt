use Rattle.std.proofs.Common.{take}
use Rattle.std.specs.Prelude.{All}
use Rattle.sql_keepable.specs.Keepable.{IsVoter}
use Rattle.sql_keepable.proofs.unit_parts.voters_fit.Given as goal

abbrev pub invariant-loop-vote : goal.invariant-loop-vote
invariant-loop-vote l = All IsVoter (take l.vote-index l.votes)
