use Rattle.std.proofs.Common.{rules}
use Rattle.tables.proofs.entries.flags_of.Goals as goal

pub returns : goal.returns
returns c = search rules
