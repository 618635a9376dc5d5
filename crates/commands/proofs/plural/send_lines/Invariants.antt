use Rattle.std.proofs.Common.{◌≡◌, drop}
use Rattle.byte_streams.specs.Sending.{SoFar}
use Rattle.commands.specs.PluralLines.{lines_of, fault_of}
use Rattle.commands.proofs.plural.send_lines.Given as goal

-- the lines so far, and those that are left
abbrev pub invariant-loop-n : goal.invariant-loop-n
invariant-loop-n g l = record {
  lines : SoFar (g.W.ByteSink.taken l.fn.w) (g.W.ByteSink.taken l.w) (g.W.ByteSink.failed l.fn.w) (g.W.ByteSink.failed l.w) (lines_of l.forms l.ns) (lines_of l.forms (drop l.n-index l.ns));
  end : fault_of l.forms l.ns ≡ fault_of l.forms (drop l.n-index l.ns);
}
