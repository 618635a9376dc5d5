use Rattle.std.proofs.Common.{rules}
use Rattle.units.proofs.states.is_read_only.Goals as goal

pub returns-in-Some : goal.returns-in-Some
returns-in-Some c = search rules
