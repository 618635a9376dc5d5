use Rattle.std.proofs.Common.{rules}
use Rattle.po_read.proofs.reading.Reader.test_key.Goals as goal

pub returns-then-branch : goal.returns-then-branch
returns-then-branch c = search rules
