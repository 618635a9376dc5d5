use Rattle.std.proofs.Common.{◌∙◌}
use Rattle.std.specs.Map.Iter.{deref_pair}
use Rattle.std.proofs.lemmas.Map.Iter.{rest_more, rest_all}
use Rattle.rule_tests.proofs.BookTests.{IsRow, all_recorded}
use Rattle.rule_tests.proofs.Tests.{left_begun, left_next, left_failed, left_passed}
use Rattle.rule_tests.proofs.book_rules.are_recorded.Goals as goal

pub loop-place-init : goal.loop-place-init
loop-place-init c =
    left_begun (IsRow c.args.statuses.now) c.into_iter-place-iterator.result c.args.domain.now.units.entries (c.into_iter-place-iterator.ensures.into_iter_gives ∙ c.iter-place-items.ensures.rest)

pub loop-place-preserved : goal.loop-place-preserved
loop-place-preserved c =
    left_next (IsRow c.args.statuses.now) c.loop-place._place-iterator c.next.new.self c.args.domain.now.units.entries (c.in-Some._place.now, c.in-Some.unit.now)
    (rest_more deref_pair c.loop-place._place-iterator c.next.new.self c.next.result (c.in-Some._place, c.in-Some.unit) c.in-Some.is c.next.ensures.steps) (c.is_recorded.ensures.0 c.if-not-is_recorded.false)
    c.loop-place.invariant

pub returns-then-not-is_recorded : goal.returns-then-not-is_recorded
returns-then-not-is_recorded c =
    all_recorded c.args.statuses.now c.args.domain.now _ c.iter-place-items.ensures.ordered
    (left_failed (IsRow c.args.statuses.now) c.loop-place._place-iterator c.next.new.self c.args.domain.now.units.entries (c.in-Some._place.now, c.in-Some.unit.now) c.is_recorded.result
    (rest_more deref_pair c.loop-place._place-iterator c.next.new.self c.next.result (c.in-Some._place, c.in-Some.unit) c.in-Some.is c.next.ensures.steps) c.is_recorded.ensures c.if-not-is_recorded.true
    c.loop-place.invariant)

pub returns : goal.returns
returns c =
    all_recorded c.args.statuses.now c.args.domain.now _ c.iter-place-items.ensures.ordered
    (left_passed (IsRow c.args.statuses.now) c.loop-place._place-iterator c.args.domain.now.units.entries
    (rest_all deref_pair c.loop-place._place-iterator c.next.new.self c.next.result c.in-None.is c.next.ensures.steps) c.loop-place.invariant)
