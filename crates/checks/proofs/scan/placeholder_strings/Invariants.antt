use Rattle.std.proofs.Common.{◌≡◌, map, string_bytes}
use Rattle.checks.proofs.scan.placeholder_strings.Given as goal

abbrev pub invariant-loop-placeholder : goal.invariant-loop-placeholder
invariant-loop-placeholder l = map string_bytes l.found.items ≡ l.yielded
