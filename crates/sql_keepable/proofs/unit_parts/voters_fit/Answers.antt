use Rattle.sql_keepable.specs.Keepable.{IsVoter}
use Rattle.sql_keepable.proofs.Lists.{one_more, walked}
use Rattle.sql_keepable.proofs.unit_parts.voters_fit.Goals as goal

pub loop-vote-preserved : goal.loop-vote-preserved
loop-vote-preserved c =
    one_more IsVoter c.args.votes.now c.loop-vote.vote-index c.vote-item.result c.loop-vote-test.true c.vote-item.is c.loop-vote.invariant c.name_fits.ensures

pub returns : goal.returns
returns c = walked IsVoter c.args.votes.now c.loop-vote.vote-index c.loop-vote-test.false c.loop-vote.invariant
