use Rattle.rule_tests.proofs.BookTests.{domain_numbers, IsGathered}
use Rattle.rule_tests.proofs.book_rules.have_own_numbers.Given as goal

abbrev pub invariant-loop-name : goal.invariant-loop-name
invariant-loop-name l = IsGathered domain_numbers l.maps.domains.entries l._name-iterator l.initial.seen l.seen
