use Rattle.std.proofs.Common.{take}
use Rattle.rule_tests.proofs.BookTests.{IsAdded}
use Rattle.rule_tests.proofs.book_rules.add_numbers.Given as goal

abbrev pub invariant-loop-suggestion : goal.invariant-loop-suggestion
invariant-loop-suggestion l = IsAdded l.fn.seen l.seen (take l.suggestion-index l.suggestion-items)
