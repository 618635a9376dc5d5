use Rattle.std.proofs.Common.{◌≡◌, ◌-◌, ◌^◌, vec_len}
use Rattle.byte_streams.specs.Streams.{prepend_known}
use Rattle.client.proofs.source.gather.Given as goal

-- what was read so far
abbrev pub invariant-loop-count : goal.invariant-loop-count
invariant-loop-count g l = record {
  cut : g.R.ByteSource.left l.fn.source ≡ prepend_known l.bytes.items (g.R.ByteSource.left l.source);
  count : g.R.ByteSource.failed l.source ≡ g.R.ByteSource.failed l.fn.source;
}

abbrev pub decreases-loop-count : goal.decreases-loop-count
decreases-loop-count g l = 2 ^ 64 - vec_len l.bytes
