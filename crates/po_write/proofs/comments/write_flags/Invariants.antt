use Rattle.std.proofs.Common.{drop, ◌++◌, ◌∷◌, []}
use Rattle.std.specs.Prelude.{flat_map}
use Rattle.byte_streams.specs.Sending.{SoFar}
use Rattle.po_write.specs.Text.{flags_line, further}
use Rattle.po_write.proofs.comments.write_flags.Given as goal

abbrev pub invariant-loop-flag : goal.invariant-loop-flag
invariant-loop-flag g l = SoFar (g.W.ByteSink.taken l.fn.w) (g.W.ByteSink.taken l.w) (g.W.ByteSink.failed l.fn.w) (g.W.ByteSink.failed l.w)
    (flags_line l.flags) (flat_map further (drop l.flag-index l.others) ++ 10 ∷ [])
