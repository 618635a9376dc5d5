use Rattle.outcomes.proofs.Settling.{still}
use Rattle.outcomes.proofs.domain_act.in_domain.Goals as goal

pub returns-in-None : goal.returns-in-None
returns-in-None c = λ office stepped there settled. still office c.args.domain.now c.args.outcome stepped c.in-None.is settled
