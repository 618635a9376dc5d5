use Rattle.std.proofs.Common.{◌≡◌, ◌++◌, drop}
use Rattle.checks.specs.Findings.{line_ends_fit, failing_from, unfit_line_ends}
use Rattle.checks.proofs.checking.unfit_line_ends.Given as goal

-- what was found, and what the forms that are left give, are what all give
abbrev pub invariant-loop-number : goal.invariant-loop-number
invariant-loop-number l = l.found ++ failing_from (λ form. line_ends_fit l.source.id form.1) l.number (drop l.number l.forms) ≡ unfit_line_ends l.source l.forms
