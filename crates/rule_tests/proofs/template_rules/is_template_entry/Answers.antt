use Rattle.rule_tests.proofs.TemplateTests.{entry_told}
use Rattle.rule_tests.proofs.template_rules.is_template_entry.Goals as goal

pub returns : goal.returns
returns c = entry_told c.args.entry.now c.hold_all.result c.is_plain.result c.is_untouched.result c.hold_all.ensures c.is_plain.ensures c.is_untouched.ensures
