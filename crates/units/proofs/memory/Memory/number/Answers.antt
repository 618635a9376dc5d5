use Rattle.std.proofs.Common.{refl}
use Rattle.units.proofs.memory.Memory.number.Goals as goal

pub returns : goal.returns
returns c = refl
