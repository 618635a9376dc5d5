use Rattle.office_specification.proofs.retries.Once.{joined}
use Rattle.office_specification.proofs.laws.run_goes_on.Goals as goal

pub returns : goal.returns
returns c = joined
