use Rattle.std.proofs.Common.{◌∙◌, sym, subst}
use Rattle.std.specs.Bool.{Decides}
use Rattle.std.specs.List.{AllByRecursion}
use Rattle.std.specs.Map.Iter.{deref_pair}
use Rattle.std.proofs.lemmas.Map.Iter.{rest_more, rest_all}
use Rattle.units.specs.Project.{Project}
use Rattle.units.specs.Projects.{IsProject}
use Rattle.office_maps.specs.OfficeIn.{office_in}
use Rattle.rule_tests.specs.Given.{AreAll}
use Rattle.rule_tests.proofs.DomainTests.{IsRow, IsListed, rows_listed, all_projects}
use Rattle.rule_tests.proofs.Tests.{left_begun, left_next, left_failed, left_passed}
use Rattle.rule_tests.proofs.domain_rules.are_projects.Goals as goal

pub loop-name-init : goal.loop-name-init
loop-name-init c =
    let begins = c.into_iter-name-iterator.ensures.into_iter_gives ∙ c.iter-name-items.ensures.rest in
    record {
      left = left_begun (IsRow (office_in c.args.maps.now)) c.into_iter-name-iterator.result c.args.maps.now.domains.entries begins;
      listed = subst (AllByRecursion (IsListed c.args.langs.now)) (sym begins) (rows_listed c.args.maps.now c.args.langs.now c.iter-name-items.ensures.ordered c.requires.all);
    }

pub keeps_project_rules-requires : goal.keeps_project_rules-requires
keeps_project_rules-requires c =
    let step = rest_more deref_pair c.loop-name._name-iterator c.next.new.self c.next.result (c.in-Some._name, c.in-Some.domain) c.in-Some.is c.next.ensures.steps in
    record { all = subst (λ (p : Project). AreAll p.headers c.args.langs.now) (sym c.project_of-project.ensures) (subst (AllByRecursion (IsListed c.args.langs.now)) step c.loop-name.invariant.listed).0 }

pub loop-name-preserved : goal.loop-name-preserved
loop-name-preserved c =
    let step = rest_more deref_pair c.loop-name._name-iterator c.next.new.self c.next.result (c.in-Some._name, c.in-Some.domain) c.in-Some.is c.next.ensures.steps in
    record {
      left = left_next (IsRow (office_in c.args.maps.now)) c.loop-name._name-iterator c.next.new.self c.args.maps.now.domains.entries (c.in-Some._name.now, c.in-Some.domain.now) step
          (subst IsProject c.project_of-project.ensures (c.in_ok-keeps.ensures.0 c.if-not-keeps.false)) c.loop-name.invariant.left;
      listed = (subst (AllByRecursion (IsListed c.args.langs.now)) step c.loop-name.invariant.listed).1;
    }

pub returns-then-not-keeps : goal.returns-then-not-keeps
returns-then-not-keeps c =
    let step = rest_more deref_pair c.loop-name._name-iterator c.next.new.self c.next.result (c.in-Some._name, c.in-Some.domain) c.in-Some.is c.next.ensures.steps in
    all_projects c.args.maps.now _ c.iter-name-items.ensures.ordered
    (left_failed (IsRow (office_in c.args.maps.now)) c.loop-name._name-iterator c.next.new.self c.args.maps.now.domains.entries (c.in-Some._name.now, c.in-Some.domain.now) c.in_ok-keeps.keeps step
    (subst (λ (p : Project). Decides c.in_ok-keeps.keeps (IsProject p)) c.project_of-project.ensures c.in_ok-keeps.ensures) c.if-not-keeps.true c.loop-name.invariant.left)

pub returns : goal.returns
returns c =
    all_projects c.args.maps.now _ c.iter-name-items.ensures.ordered
    (left_passed (IsRow (office_in c.args.maps.now)) c.loop-name._name-iterator c.args.maps.now.domains.entries
    (rest_all deref_pair c.loop-name._name-iterator c.next.new.self c.next.result c.in-None.is c.next.ensures.steps) c.loop-name.invariant.left)
