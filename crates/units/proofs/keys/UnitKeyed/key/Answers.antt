use Rattle.std.proofs.Common.{rules}
use Rattle.units.proofs.keys.UnitKeyed.key.Goals as goal

pub returns : goal.returns
returns c = search rules
