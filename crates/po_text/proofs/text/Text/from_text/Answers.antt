use Rattle.std.proofs.Common.{rules}
use Rattle.po_text.proofs.text.Text.from_text.Goals as goal

pub returns : goal.returns
returns c = search rules
