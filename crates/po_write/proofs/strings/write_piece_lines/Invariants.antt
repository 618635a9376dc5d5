use Rattle.std.proofs.Common.{length}
use Rattle.byte_streams.specs.Sending.{SoFar}
use Rattle.po_write.specs.Text.{pieces_of, piece_lines}
use Rattle.po_write.proofs.strings.write_piece_lines.Given as goal

abbrev pub invariant-loop-rest : goal.invariant-loop-rest
invariant-loop-rest g l = SoFar (g.W.ByteSink.taken l.fn.w) (g.W.ByteSink.taken l.w) (g.W.ByteSink.failed l.fn.w) (g.W.ByteSink.failed l.w)
    (piece_lines l.mark (pieces_of l.string)) (piece_lines l.mark (pieces_of l.rest))

abbrev pub decreases-loop-rest : goal.decreases-loop-rest
decreases-loop-rest g l = length l.rest
