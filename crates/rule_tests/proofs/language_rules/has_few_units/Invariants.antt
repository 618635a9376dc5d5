use Rattle.rule_tests.proofs.LanguageTests.{IsCounted}
use Rattle.rule_tests.proofs.language_rules.has_few_units.Given as goal

abbrev pub invariant-loop-place : goal.invariant-loop-place
invariant-loop-place l = IsCounted l.project l.fn.lang l.count l.place-iterator
