use Rattle.std.proofs.Common.{refl}
use Rattle.plural_expr.proofs.fault.PluralFault.number.Goals as goal

pub returns-in-Range : goal.returns-in-Range
returns-in-Range c = rw c.in-Range.is refl
