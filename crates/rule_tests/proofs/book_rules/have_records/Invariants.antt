use Rattle.rule_tests.proofs.BookTests.{IsDomainRow}
use Rattle.rule_tests.proofs.Tests.{IsLeft}
use Rattle.rule_tests.proofs.book_rules.have_records.Given as goal

abbrev pub invariant-loop-name : goal.invariant-loop-name
invariant-loop-name l = IsLeft (IsDomainRow l.statuses) l._name-iterator l.maps.domains.entries
