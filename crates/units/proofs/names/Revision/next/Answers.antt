use Rattle.std.proofs.Common.{rules}
use Rattle.units.proofs.names.Revision.next.Goals as goal

pub returns : goal.returns
returns c = search rules
