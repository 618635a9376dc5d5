use Rattle.std.proofs.Common.{◌≡◌, false, take}
use Rattle.std.specs.List.{list_any}
use Rattle.http_messages.proofs.ValueLemmas.{is_line}
use Rattle.http_messages.proofs.lines.has_value.Given as goal

abbrev pub invariant-loop-line : goal.invariant-loop-line
invariant-loop-line l = list_any (is_line l.bytes l.name l.value) (take l.line-index l.lines) ≡ false
