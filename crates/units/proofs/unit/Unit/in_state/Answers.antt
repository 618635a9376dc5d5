use Rattle.std.proofs.Common.{refl}
use Rattle.units.proofs.unit.Unit.in_state.Goals as goal

pub returns : goal.returns
returns c = rw c.kept_previous.ensures refl
