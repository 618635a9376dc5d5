use Rattle.std.proofs.Common.{◌≡◌, drop}
use Rattle.checks.specs.Findings.{is_struck_out}
use Rattle.checks.proofs.Striking.{taken_in_order}
use Rattle.checks.proofs.agreement.is_struck_out.Given as goal

-- what is left gives what all gives
abbrev pub invariant-loop-directive : goal.invariant-loop-directive
invariant-loop-directive l = taken_in_order l.rest (drop l.directive-index l.wanted) ≡ is_struck_out l.found l.wanted
