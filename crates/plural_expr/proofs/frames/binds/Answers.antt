use Rattle.std.proofs.Common.{rules}
use Rattle.plural_expr.proofs.frames.binds.Goals as goal

pub returns-in-Else-clause-bound : goal.returns-in-Else-clause-bound
returns-in-Else-clause-bound c = search rules
