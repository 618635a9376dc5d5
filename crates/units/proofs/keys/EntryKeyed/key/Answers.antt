use Rattle.std.proofs.Common.{rules}
use Rattle.units.proofs.keys.EntryKeyed.key.Goals as goal

pub returns : goal.returns
returns c = search rules
