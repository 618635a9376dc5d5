use Rattle.units.specs.Projects.{IsTemplateEntry}
use Rattle.rule_tests.proofs.Tests.{all_more, all_passed, one_failed}
use Rattle.rule_tests.proofs.template_rules.are_template_entries.Goals as goal

pub loop-entry-preserved : goal.loop-entry-preserved
loop-entry-preserved c =
    all_more IsTemplateEntry c.args.entries.now c.loop-entry.entry-index c.entry-item.result c.loop-entry-test.true c.entry-item.is c.loop-entry.invariant
    (c.is_template_entry.ensures.0 c.if-not-is_template_entry.false)

pub returns-then-not-is_template_entry : goal.returns-then-not-is_template_entry
returns-then-not-is_template_entry c =
    one_failed IsTemplateEntry c.args.entries.now c.loop-entry.entry-index c.entry-item.result c.is_template_entry.result c.loop-entry-test.true c.entry-item.is c.is_template_entry.ensures
    c.if-not-is_template_entry.true

pub returns : goal.returns
returns c = all_passed IsTemplateEntry c.args.entries.now c.loop-entry.entry-index c.loop-entry-test.false c.loop-entry.invariant
