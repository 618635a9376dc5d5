use Rattle.std.proofs.Common.{drop, nat_lt}
use Rattle.byte_streams.specs.Sending.{SoFar}
use Rattle.po_write.specs.Text.{text_of}
use Rattle.po_write.proofs.Pushes.{left_of}
use Rattle.po_write.proofs.catalogue.send_entries.Given as goal

-- the entries so far, and those that are left
abbrev pub invariant-loop-i : goal.invariant-loop-i
invariant-loop-i g l = SoFar (g.W.ByteSink.taken l.fn.w) (g.W.ByteSink.taken l.w) (g.W.ByteSink.failed l.fn.w) (g.W.ByteSink.failed l.w) (text_of l.entries) (left_of (nat_lt 0 l.i) (drop l.i l.entries))
