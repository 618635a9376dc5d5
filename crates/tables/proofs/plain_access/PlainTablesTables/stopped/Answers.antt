use Rattle.std.proofs.Common.{rules}
use Rattle.tables.proofs.plain_access.PlainTablesTables.stopped.Goals as goal

pub returns : goal.returns
returns c = search rules
