use Rattle.std.proofs.Common.{refl}
use Rattle.po_text.proofs.text.Text.from_string.Goals as goal

pub returns : goal.returns
returns c = refl
