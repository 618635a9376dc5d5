use Rattle.std.proofs.Common.{◌-◌, ◌≤◌, length, drop}
use Rattle.byte_streams.specs.Sending.{SoFar}
use Rattle.byte_streams.proofs.sending.send_rest.Given as goal

abbrev pub invariant-loop-sent : goal.invariant-loop-sent
invariant-loop-sent g l = record {
  within : l.sent ≤ length l.bytes;
  so_far : SoFar (g.W.ByteSink.taken l.fn.w) (g.W.ByteSink.taken l.w) (g.W.ByteSink.failed l.fn.w) (g.W.ByteSink.failed l.w) l.bytes (drop l.sent l.bytes);
}

abbrev pub decreases-loop-sent : goal.decreases-loop-sent
decreases-loop-sent g l = length l.bytes - l.sent
