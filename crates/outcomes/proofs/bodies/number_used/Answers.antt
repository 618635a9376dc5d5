use Rattle.std.proofs.Common.{rules}
use Rattle.outcomes.proofs.bodies.number_used.Goals as goal

pub returns : goal.returns
returns c = search rules
