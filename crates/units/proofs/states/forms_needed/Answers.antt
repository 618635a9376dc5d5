use Rattle.std.proofs.Common.{refl}
use Rattle.units.proofs.states.forms_needed.Goals as goal

pub returns-in-None : goal.returns-in-None
returns-in-None c = rw c.in-None.is refl
