use Rattle.std.proofs.Common.{rules}
use Rattle.units.proofs.unit.UnitView.shown_state.Goals as goal

pub returns : goal.returns
returns c = search rules
