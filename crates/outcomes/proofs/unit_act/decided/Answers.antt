use Rattle.std.proofs.Common.{rules}
use Rattle.outcomes.proofs.unit_act.decided.Goals as goal

pub returns-in-Refused : goal.returns-in-Refused
returns-in-Refused c = search rules
