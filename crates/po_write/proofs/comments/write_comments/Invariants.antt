use Rattle.std.proofs.Common.{drop}
use Rattle.std.specs.Prelude.{flat_map}
use Rattle.byte_streams.specs.Sending.{SoFar}
use Rattle.po_write.specs.Text.{comment}
use Rattle.po_write.proofs.comments.write_comments.Given as goal

abbrev pub invariant-loop-text : goal.invariant-loop-text
invariant-loop-text g l = SoFar (g.W.ByteSink.taken l.fn.w) (g.W.ByteSink.taken l.w) (g.W.ByteSink.failed l.fn.w) (g.W.ByteSink.failed l.w)
    (flat_map (comment l.mark) l.texts) (flat_map (comment l.mark) (drop l.text-index l.texts))
