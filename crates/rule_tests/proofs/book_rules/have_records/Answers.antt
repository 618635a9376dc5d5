use Rattle.std.proofs.Common.{◌∙◌}
use Rattle.std.specs.Map.Iter.{deref_pair}
use Rattle.std.proofs.lemmas.Map.Iter.{rest_more, rest_all}
use Rattle.rule_tests.proofs.BookTests.{IsDomainRow, have_recorded}
use Rattle.rule_tests.proofs.Tests.{left_begun, left_next, left_failed, left_passed}
use Rattle.rule_tests.proofs.book_rules.have_records.Goals as goal

pub loop-name-init : goal.loop-name-init
loop-name-init c =
    left_begun (IsDomainRow c.args.statuses.now) c.into_iter-name-iterator.result c.args.maps.now.domains.entries (c.into_iter-name-iterator.ensures.into_iter_gives ∙ c.iter-name-items.ensures.rest)

pub loop-name-preserved : goal.loop-name-preserved
loop-name-preserved c =
    left_next (IsDomainRow c.args.statuses.now) c.loop-name._name-iterator c.next.new.self c.args.maps.now.domains.entries (c.in-Some._name.now, c.in-Some.domain.now)
    (rest_more deref_pair c.loop-name._name-iterator c.next.new.self c.next.result (c.in-Some._name, c.in-Some.domain) c.in-Some.is c.next.ensures.steps) (c.are_recorded.ensures.0 c.if-not-are_recorded.false)
    c.loop-name.invariant

pub returns-then-not-are_recorded : goal.returns-then-not-are_recorded
returns-then-not-are_recorded c =
    have_recorded c.args.statuses.now c.args.maps.now _ c.iter-name-items.ensures.ordered
    (left_failed (IsDomainRow c.args.statuses.now) c.loop-name._name-iterator c.next.new.self c.args.maps.now.domains.entries (c.in-Some._name.now, c.in-Some.domain.now) c.are_recorded.result
    (rest_more deref_pair c.loop-name._name-iterator c.next.new.self c.next.result (c.in-Some._name, c.in-Some.domain) c.in-Some.is c.next.ensures.steps) c.are_recorded.ensures c.if-not-are_recorded.true
    c.loop-name.invariant)

pub returns : goal.returns
returns c =
    have_recorded c.args.statuses.now c.args.maps.now _ c.iter-name-items.ensures.ordered
    (left_passed (IsDomainRow c.args.statuses.now) c.loop-name._name-iterator c.args.maps.now.domains.entries
    (rest_all deref_pair c.loop-name._name-iterator c.next.new.self c.next.result c.in-None.is c.next.ensures.steps) c.loop-name.invariant)
