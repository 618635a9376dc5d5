use Rattle.std.proofs.Common.{drop}
use Rattle.byte_streams.specs.Sending.{SoFar}
use Rattle.client.specs.SendLines.{told_lines}
use Rattle.client.proofs.telling.send_all_told.Given as goal

-- the lines so far, and those that are left
abbrev pub invariant-loop-place : goal.invariant-loop-place
invariant-loop-place g l = SoFar (g.W.ByteSink.taken l.fn.w) (g.W.ByteSink.taken l.w) (g.W.ByteSink.failed l.fn.w) (g.W.ByteSink.failed l.w)
    (told_lines l.sender) (told_lines (drop l.place l.sender))
