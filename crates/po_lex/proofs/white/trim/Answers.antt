use Rattle.std.proofs.Common.{rules}
use Rattle.po_lex.proofs.white.trim.Goals as goal

pub returns : goal.returns
returns c = search rules
