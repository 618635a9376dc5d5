use Rattle.std.proofs.Common.{refl}
use Rattle.units.proofs.unit.Refusal.number.Goals as goal

pub returns-in-IsFull : goal.returns-in-IsFull
returns-in-IsFull c = rw c.in-IsFull.is refl

pub returns-in-IsSame : goal.returns-in-IsSame
returns-in-IsSame c = rw c.in-IsSame.is refl
