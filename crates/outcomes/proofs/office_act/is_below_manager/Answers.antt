use Rattle.std.proofs.Common.{rules}
use Rattle.outcomes.proofs.office_act.is_below_manager.Goals as goal

pub returns : goal.returns
returns c = search rules
