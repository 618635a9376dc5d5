use Rattle.std.proofs.Common.{◌≡◌, ◌++◌, drop, option_map}
use Rattle.checks.specs.declared.format.Format.TheVariants.{C, Brace}
use Rattle.checks.specs.Findings.{wanted_of, placeholders_fit, failing_from}
use Rattle.checks.proofs.checking.unfit_placeholders.Given as goal

-- what was found, and what the forms that are left give, are what all give
abbrev pub invariant-loop-number : goal.invariant-loop-number
invariant-loop-number l = record {
  directives : option_map (λ texts. texts.items) l.directives ≡ wanted_of C l.source;
  braces : option_map (λ texts. texts.items) l.braces ≡ wanted_of Brace l.source;
  found : l.found ++ failing_from (placeholders_fit l.source l.rule) l.number (drop l.number l.forms) ≡ failing_from (placeholders_fit l.source l.rule) 0 l.forms;
}
