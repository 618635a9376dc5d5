use Rattle.std.proofs.Common.{◌≡◌, length}
use Rattle.checks.specs.Directives.{after_all, is_flag}
use Rattle.checks.proofs.directive.after_flags.Given as goal

-- what is left gives what all gives
abbrev pub invariant-loop-rest : goal.invariant-loop-rest
invariant-loop-rest l = after_all is_flag l.rest ≡ after_all is_flag l.text

abbrev pub decreases-loop-rest : goal.decreases-loop-rest
decreases-loop-rest l = length l.rest
