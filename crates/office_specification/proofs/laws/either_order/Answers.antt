use Rattle.office_specification.proofs.commuting.Between.{either}
use Rattle.office_specification.proofs.laws.either_order.Goals as goal

pub returns : goal.returns
returns c = either
