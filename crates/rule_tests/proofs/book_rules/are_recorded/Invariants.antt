use Rattle.rule_tests.proofs.BookTests.{IsRow}
use Rattle.rule_tests.proofs.Tests.{IsLeft}
use Rattle.rule_tests.proofs.book_rules.are_recorded.Given as goal

abbrev pub invariant-loop-place : goal.invariant-loop-place
invariant-loop-place l = IsLeft (IsRow l.statuses) l._place-iterator l.domain.units.entries
