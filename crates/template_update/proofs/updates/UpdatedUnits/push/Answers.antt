use Rattle.std.proofs.Common.{rules}
use Rattle.template_update.proofs.updates.UpdatedUnits.push.Goals as goal

pub returns-clause-units : goal.returns-clause-units
returns-clause-units c = search rules
