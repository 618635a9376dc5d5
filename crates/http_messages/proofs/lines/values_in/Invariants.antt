use Rattle.std.proofs.Common.{take, map}
use Rattle.httparse.specs.Spans.{header_bytes}
use Rattle.http_messages.specs.Values.{AreValues}
use Rattle.http_messages.specs.Framing.{values_of}
use Rattle.http_messages.proofs.lines.values_in.Given as goal

abbrev pub invariant-loop-line : goal.invariant-loop-line
invariant-loop-line l = AreValues l.found (values_of l.name (map (header_bytes l.bytes) (take l.line-index l.lines)))
