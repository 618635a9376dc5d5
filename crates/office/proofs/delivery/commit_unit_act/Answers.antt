use Rattle.std.proofs.Common.{rules}
use Rattle.office.proofs.delivery.commit_unit_act.Goals as goal

pub returns-clause-done : goal.returns-clause-done
returns-clause-done g c = search rules

pub returns-clause-kept : goal.returns-clause-kept
returns-clause-kept g c = search rules
