use Rattle.std.proofs.Common.{◌≡◌, ◌++◌, length}
use Rattle.checks.specs.Formats.{placeholders_of}
use Rattle.checks.proofs.scan.placeholder_texts.Given as goal

-- what was found, and what is left gives, are what all gives
abbrev pub invariant-loop-rest : goal.invariant-loop-rest
invariant-loop-rest l = l.found.items ++ placeholders_of l.format l.rest ≡ placeholders_of l.format l.text

abbrev pub decreases-loop-rest : goal.decreases-loop-rest
decreases-loop-rest l = length l.rest
