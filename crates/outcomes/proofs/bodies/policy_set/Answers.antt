use Rattle.std.proofs.Common.{rules}
use Rattle.outcomes.proofs.bodies.policy_set.Goals as goal

pub returns : goal.returns
returns c = search rules
