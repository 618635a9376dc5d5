use Rattle.sender.proofs.WaitingLemmas.{no_unit_in, no_domain_in}
use Rattle.sender.proofs.waiting.Numbers.new.Goals as goal

pub returns-clause-units : goal.returns-clause-units
returns-clause-units c = λ unit. no_unit_in c.new.result unit c.new.ensures.empty

pub returns-clause-domains : goal.returns-clause-domains
returns-clause-domains c = λ domain. no_domain_in c.new-2.result domain c.new-2.ensures.empty
