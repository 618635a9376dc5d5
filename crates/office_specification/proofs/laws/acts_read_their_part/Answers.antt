use Rattle.office_specification.proofs.acts.PartSteps.{step_alike}
use Rattle.office_specification.proofs.laws.acts_read_their_part.Goals as goal

pub returns : goal.returns
returns c = step_alike
