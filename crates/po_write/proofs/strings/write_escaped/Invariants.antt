use Rattle.std.proofs.Common.{length}
use Rattle.po_lex.specs.Escapes.{escaped}
use Rattle.byte_streams.specs.Sending.{SoFar}
use Rattle.po_write.proofs.strings.write_escaped.Given as goal

abbrev pub invariant-loop-first : goal.invariant-loop-first
invariant-loop-first g l = SoFar (g.W.ByteSink.taken l.fn.w) (g.W.ByteSink.taken l.w) (g.W.ByteSink.failed l.fn.w) (g.W.ByteSink.failed l.w)
    (escaped l.string) (escaped l.rest)

abbrev pub decreases-loop-first : goal.decreases-loop-first
decreases-loop-first g l = length l.rest
