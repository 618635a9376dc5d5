use Rattle.std.proofs.Common.{◌∙◌}
use Rattle.std.specs.Map.Iter.{deref_pair}
use Rattle.std.proofs.lemmas.Map.Iter.{rest_more, rest_all}
use Rattle.rule_tests.proofs.BookTests.{domain_numbers, begun, gathered_more, shared, all_own, own_told}
use Rattle.rule_tests.proofs.book_rules.have_own_numbers.Goals as goal

pub loop-name-init : goal.loop-name-init
loop-name-init c =
    begun domain_numbers c.args.maps.now.domains.entries c.new-seen.result c.into_iter-name-iterator.result (c.into_iter-name-iterator.ensures.into_iter_gives ∙ c.iter-name-items.ensures.rest)

pub loop-name-preserved : goal.loop-name-preserved
loop-name-preserved c =
    gathered_more domain_numbers c.args.maps.now.domains.entries c.new-seen.result c.loop-name._name-iterator c.next.new.self (c.in-Some._name.now, c.in-Some.domain.now) c.loop-name.seen
    c.add_domain_numbers.new.seen c.in_ok-add_domain_numbers.field-0
    (rest_more deref_pair c.loop-name._name-iterator c.next.new.self c.next.result (c.in-Some._name, c.in-Some.domain) c.in-Some.is c.next.ensures.steps)
    c.in_ok-add_domain_numbers.ensures.new c.in_ok-add_domain_numbers.ensures.seen c.if-not-branch.false c.loop-name.invariant

pub returns-then-not-branch : goal.returns-then-not-branch
returns-then-not-branch c =
    own_told c.args.maps.now c.new-seen.result _ c.new-seen.ensures.empty c.iter-name-items.ensures.ordered
    (shared domain_numbers c.args.maps.now.domains.entries c.new-seen.result c.loop-name._name-iterator c.next.new.self (c.in-Some._name.now, c.in-Some.domain.now) c.loop-name.seen
    c.in_ok-add_domain_numbers.field-0 (rest_more deref_pair c.loop-name._name-iterator c.next.new.self c.next.result (c.in-Some._name, c.in-Some.domain) c.in-Some.is c.next.ensures.steps)
    c.in_ok-add_domain_numbers.ensures.new c.if-not-branch.true c.loop-name.invariant)

pub returns : goal.returns
returns c =
    own_told c.args.maps.now c.new-seen.result _ c.new-seen.ensures.empty c.iter-name-items.ensures.ordered
    (all_own domain_numbers c.args.maps.now.domains.entries c.new-seen.result c.loop-name._name-iterator c.loop-name.seen
    (rest_all deref_pair c.loop-name._name-iterator c.next.new.self c.next.result c.in-None.is c.next.ensures.steps) c.loop-name.invariant)
