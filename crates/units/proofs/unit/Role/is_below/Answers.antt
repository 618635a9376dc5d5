use Rattle.std.proofs.Common.{refl}
use Rattle.units.proofs.unit.Role.is_below.Goals as goal

pub returns : goal.returns
returns c = rw (c.rank.ensures, c.rank-2.ensures) refl
