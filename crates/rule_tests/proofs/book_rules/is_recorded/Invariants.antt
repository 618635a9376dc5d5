use Rattle.std.proofs.Common.{take}
use Rattle.std.specs.Prelude.{All}
use Rattle.rule_tests.proofs.BookTests.{HasStatus}
use Rattle.rule_tests.proofs.book_rules.is_recorded.Given as goal

abbrev pub invariant-loop-suggestion : goal.invariant-loop-suggestion
invariant-loop-suggestion l = All (HasStatus l.statuses) (take l.suggestion-index l.suggestion-items)
