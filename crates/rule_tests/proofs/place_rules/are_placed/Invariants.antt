use Rattle.rule_tests.proofs.PlaceTests.{IsRow}
use Rattle.rule_tests.proofs.Tests.{IsLeft}
use Rattle.rule_tests.proofs.place_rules.are_placed.Given as goal

abbrev pub invariant-loop-place : goal.invariant-loop-place
invariant-loop-place l = IsLeft (IsRow l.project) l.place-iterator l.project.domain.now.units.entries
