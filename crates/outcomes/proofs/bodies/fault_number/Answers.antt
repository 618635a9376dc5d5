use Rattle.std.proofs.Common.{rules}
use Rattle.outcomes.proofs.bodies.fault_number.Goals as goal

pub returns-in-None : goal.returns-in-None
returns-in-None c = search rules
