use Rattle.std.proofs.Common.{rules}
use Rattle.commands.proofs.streams.OutputByteSink.write.Goals as goal

pub returns-in-Ok-clause-passed : goal.returns-in-Ok-clause-passed
returns-in-Ok-clause-passed g c = search rules
