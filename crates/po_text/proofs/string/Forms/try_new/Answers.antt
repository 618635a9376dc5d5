use Rattle.std.proofs.Common.{rules}
use Rattle.po_text.proofs.string.Forms.try_new.Goals as goal

pub invariant_of-result : goal.invariant_of-result
invariant_of-result c = search rules
