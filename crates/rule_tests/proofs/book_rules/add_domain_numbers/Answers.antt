use Rattle.std.proofs.Common.{◌∙◌, ◌++◌, false, true, subst}
use Rattle.std.specs.Bool.{Decides}
use Rattle.std.specs.List.{IsDistinct}
use Rattle.std.specs.Map.Iter.{deref_pair}
use Rattle.std.proofs.lemmas.Map.Iter.{rest_more, rest_all}
use Rattle.po_text.specs.Texts.{text_eq}
use Rattle.rule_tests.specs.Books.{AreSeen}
use Rattle.rule_tests.proofs.BookTests.{unit_numbers, begun, gathered_more, shared, all_own, all_seen, in_units}
use Rattle.rule_tests.proofs.book_rules.add_domain_numbers.Goals as goal

pub loop-place-init : goal.loop-place-init
loop-place-init c =
    begun unit_numbers c.args.domain.now.units.entries c.args.seen.now c.into_iter-place-iterator.result (c.into_iter-place-iterator.ensures.into_iter_gives ∙ c.iter-place-items.ensures.rest)

pub loop-place-preserved : goal.loop-place-preserved
loop-place-preserved c =
    gathered_more unit_numbers c.args.domain.now.units.entries c.args.seen.now c.loop-place._place-iterator c.next.new.self (c.in-Some._place.now, c.in-Some.unit.now) c.loop-place.seen c.add_numbers.new.seen
    c.in_ok-add_numbers.field-0 (rest_more deref_pair c.loop-place._place-iterator c.next.new.self c.next.result (c.in-Some._place, c.in-Some.unit) c.in-Some.is c.next.ensures.steps)
    c.in_ok-add_numbers.ensures.new c.in_ok-add_numbers.ensures.seen c.if-not-branch.false c.loop-place.invariant

pub returns-then-not-branch-clause-new : goal.returns-then-not-branch-clause-new
returns-then-not-branch-clause-new c = λ before are distinct.
    subst (λ ns. Decides false (IsDistinct text_eq (before ++ ns))) (in_units c.args.domain.now c.iter-place-items.ensures.ordered)
    (shared unit_numbers c.args.domain.now.units.entries c.args.seen.now c.loop-place._place-iterator c.next.new.self (c.in-Some._place.now, c.in-Some.unit.now) c.loop-place.seen c.in_ok-add_numbers.field-0
    (rest_more deref_pair c.loop-place._place-iterator c.next.new.self c.next.result (c.in-Some._place, c.in-Some.unit) c.in-Some.is c.next.ensures.steps) c.in_ok-add_numbers.ensures.new c.if-not-branch.true
    c.loop-place.invariant before are distinct)

pub returns-clause-new : goal.returns-clause-new
returns-clause-new c = λ before are distinct.
    subst (λ ns. Decides true (IsDistinct text_eq (before ++ ns))) (in_units c.args.domain.now c.iter-place-items.ensures.ordered)
    (all_own unit_numbers c.args.domain.now.units.entries c.args.seen.now c.loop-place._place-iterator c.loop-place.seen
    (rest_all deref_pair c.loop-place._place-iterator c.next.new.self c.next.result c.in-None.is c.next.ensures.steps) c.loop-place.invariant before are distinct)

pub returns-clause-seen : goal.returns-clause-seen
returns-clause-seen c = λ before are new.
    subst (λ ns. AreSeen (before ++ ns) c.loop-place.seen) (in_units c.args.domain.now c.iter-place-items.ensures.ordered)
    (all_seen unit_numbers c.args.domain.now.units.entries c.args.seen.now c.loop-place._place-iterator c.loop-place.seen
    (rest_all deref_pair c.loop-place._place-iterator c.next.new.self c.next.result c.in-None.is c.next.ensures.steps) c.loop-place.invariant before are new)
