use Rattle.std.proofs.Common.{◌≡◌, length}
use Rattle.checks.specs.Directives.{after_all}
use Rattle.std.specs.Char.{is_ascii_digit}
use Rattle.checks.proofs.directive.after_digits.Given as goal

-- what is left gives what all gives
abbrev pub invariant-loop-rest : goal.invariant-loop-rest
invariant-loop-rest l = after_all is_ascii_digit l.rest ≡ after_all is_ascii_digit l.text

abbrev pub decreases-loop-rest : goal.decreases-loop-rest
decreases-loop-rest l = length l.rest
