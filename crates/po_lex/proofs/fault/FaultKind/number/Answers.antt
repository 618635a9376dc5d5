use Rattle.std.proofs.Common.{refl}
use Rattle.po_lex.proofs.fault.FaultKind.number.Goals as goal

pub returns-in-Forms : goal.returns-in-Forms
returns-in-Forms c = rw c.in-Forms.is refl
