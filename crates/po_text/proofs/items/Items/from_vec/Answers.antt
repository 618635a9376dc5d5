use Rattle.std.proofs.Common.{refl}
use Rattle.po_text.proofs.items.Items.from_vec.Goals as goal

pub returns : goal.returns
returns g c = refl
