use Rattle.std.proofs.Common.{rules}
use Rattle.office.proofs.delivery.deliver_first.Goals as goal

pub returns-in-OnUnit-clause-kept : goal.returns-in-OnUnit-clause-kept
returns-in-OnUnit-clause-kept g c = search rules
