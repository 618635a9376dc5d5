use Rattle.std.proofs.Common.{◌≡◌, length}
use Rattle.po_lex.specs.Lines.{lines_of}
use Rattle.po_read.proofs.TextLines.{Handing}
use Rattle.po_read.proofs.reading.Reader.read_lines.Given as goal

abbrev pub invariant-loop-told : goal.invariant-loop-told
invariant-loop-told g l = record { handing : Handing g.S.ReadSink.Took l.fn.sink l.text l.self l.sink l.lines.text l.line; number : l.line ≡ l.lines.number }

abbrev pub decreases-loop-told : goal.decreases-loop-told
decreases-loop-told g l = length (lines_of l.lines.text)
