use Rattle.po_write.proofs.Pieces.{bare_unescaped}
use Rattle.po_write.proofs.strings.plain_len.Goals as goal

pub returns-clause-plain : goal.returns-clause-plain
returns-clause-plain c = bare_unescaped c.args.bytes.now c.bare_len.result c.bare_len.ensures.value
