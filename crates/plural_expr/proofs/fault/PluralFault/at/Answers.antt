use Rattle.std.proofs.Common.{rules}
use Rattle.plural_expr.proofs.fault.PluralFault.at.Goals as goal

pub returns-in_default : goal.returns-in_default
returns-in_default c = search rules
