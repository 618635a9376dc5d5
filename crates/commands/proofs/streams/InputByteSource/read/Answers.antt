use Rattle.std.proofs.Common.{rules}
use Rattle.commands.proofs.streams.InputByteSource.read.Goals as goal

pub returns-in-Ok-clause-passed : goal.returns-in-Ok-clause-passed
returns-in-Ok-clause-passed g c = search rules
