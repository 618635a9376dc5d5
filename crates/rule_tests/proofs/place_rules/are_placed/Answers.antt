use Rattle.std.proofs.Common.{◌∙◌}
use Rattle.std.specs.Map.Iter.{deref_pair}
use Rattle.std.proofs.lemmas.Map.Iter.{rest_more, rest_all}
use Rattle.rule_tests.proofs.PlaceTests.{IsRow, all_placed}
use Rattle.rule_tests.proofs.Tests.{left_begun, left_next, left_failed, left_passed}
use Rattle.rule_tests.proofs.place_rules.are_placed.Goals as goal

pub loop-place-init : goal.loop-place-init
loop-place-init c =
    left_begun (IsRow c.args.project.now) c.into_iter-place-iterator.result c.args.project.now.domain.now.units.entries (c.into_iter-place-iterator.ensures.into_iter_gives ∙ c.iter-place-items.ensures.rest)

pub loop-place-preserved : goal.loop-place-preserved
loop-place-preserved c =
    left_next (IsRow c.args.project.now) c.loop-place.place-iterator c.next.new.self c.args.project.now.domain.now.units.entries (c.in-Some.place.now, c.in-Some.unit.now)
    (rest_more deref_pair c.loop-place.place-iterator c.next.new.self c.next.result (c.in-Some.place, c.in-Some.unit) c.in-Some.is c.next.ensures.steps) (c.is_placed.ensures.0 c.if-not-is_placed.false) c.loop-place.invariant

pub returns-then-not-is_placed : goal.returns-then-not-is_placed
returns-then-not-is_placed c =
    all_placed c.args.project.now _ c.iter-place-items.ensures.ordered
    (left_failed (IsRow c.args.project.now) c.loop-place.place-iterator c.next.new.self c.args.project.now.domain.now.units.entries (c.in-Some.place.now, c.in-Some.unit.now) c.is_placed.result
    (rest_more deref_pair c.loop-place.place-iterator c.next.new.self c.next.result (c.in-Some.place, c.in-Some.unit) c.in-Some.is c.next.ensures.steps) c.is_placed.ensures c.if-not-is_placed.true c.loop-place.invariant)

pub returns : goal.returns
returns c =
    all_placed c.args.project.now _ c.iter-place-items.ensures.ordered
    (left_passed (IsRow c.args.project.now) c.loop-place.place-iterator c.args.project.now.domain.now.units.entries
    (rest_all deref_pair c.loop-place.place-iterator c.next.new.self c.next.result c.in-None.is c.next.ensures.steps) c.loop-place.invariant)
