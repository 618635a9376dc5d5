use Rattle.std.proofs.Common.{rules}
use Rattle.po_text.proofs.text.TextOrd.cmp.Goals as goal

pub returns : goal.returns
returns c = search rules
