use Rattle.rule_tests.proofs.UnitTests.{unit_told}
use Rattle.rule_tests.proofs.unit_rules.is_unit.Goals as goal

pub returns : goal.returns
returns c =
    unit_told c.args.rule.now c.args.unit.now c.hold_all.result c.has_its_forms-formed.result c.has_its_texts.result c.has_few_suggestions.result c.hold_all.ensures c.number.ensures.fits
    c.has_its_forms-formed.ensures c.has_its_texts.ensures c.has_few_suggestions.ensures
