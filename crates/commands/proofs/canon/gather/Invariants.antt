use Rattle.std.proofs.Common.{◌≡◌, ◌≤◌, ◌-◌, vec_len}
use Rattle.byte_streams.specs.Streams.{prepend_known}
use Rattle.commands.proofs.canon.gather.Given as goal

-- what was read so far
abbrev pub invariant-loop-room : goal.invariant-loop-room
invariant-loop-room g l = record {
  cut : g.R.ByteSource.left l.fn.source ≡ prepend_known l.bytes.items (g.R.ByteSource.left l.source);
  count : g.R.ByteSource.failed l.source ≡ g.R.ByteSource.failed l.fn.source;
  most : vec_len l.bytes ≤ 16777217;
}

abbrev pub decreases-loop-room : goal.decreases-loop-room
decreases-loop-room g l = 16777217 - vec_len l.bytes
