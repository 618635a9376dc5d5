use Rattle.std.proofs.Common.{rules}
use Rattle.units.proofs.unit.UnitView.is_read_only.Goals as goal

pub returns : goal.returns
returns c = search rules
