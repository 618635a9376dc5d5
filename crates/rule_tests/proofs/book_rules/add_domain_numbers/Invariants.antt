use Rattle.rule_tests.proofs.BookTests.{unit_numbers, IsGathered}
use Rattle.rule_tests.proofs.book_rules.add_domain_numbers.Given as goal

abbrev pub invariant-loop-place : goal.invariant-loop-place
invariant-loop-place l = IsGathered unit_numbers l.domain.units.entries l._place-iterator l.fn.seen l.seen
