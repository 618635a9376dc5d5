use Rattle.office_maps.specs.OfficeIn.{lent_project}
use Rattle.rule_tests.specs.Parts.{HasUnit}
use Rattle.rule_tests.proofs.Tests.{all_more, all_passed, one_failed}
use Rattle.rule_tests.proofs.language_rules.has_each_unit.Goals as goal

pub loop-entry-preserved : goal.loop-entry-preserved
loop-entry-preserved c =
    all_more (HasUnit (lent_project c.args.project.now) c.args.lang.now) c.args.entries.now c.loop-entry.entry-index c.entry-item.result c.loop-entry-test.true c.entry-item.is c.loop-entry.invariant
    (c.in_ok-has_unit.ensures.0 c.if-not-branch.false)

pub returns-then-not-branch : goal.returns-then-not-branch
returns-then-not-branch c =
    one_failed (HasUnit (lent_project c.args.project.now) c.args.lang.now) c.args.entries.now c.loop-entry.entry-index c.entry-item.result c.in_ok-has_unit.field-0 c.loop-entry-test.true c.entry-item.is
    c.in_ok-has_unit.ensures c.if-not-branch.true

pub returns : goal.returns
returns c = all_passed (HasUnit (lent_project c.args.project.now) c.args.lang.now) c.args.entries.now c.loop-entry.entry-index c.loop-entry-test.false c.loop-entry.invariant
