use Rattle.office_maps.specs.OfficeIn.{lent_project}
use Rattle.rule_tests.specs.Parts.{IsHeaded}
use Rattle.rule_tests.proofs.Tests.{all_more, all_passed, one_failed}
use Rattle.rule_tests.proofs.language_rules.are_headed.Goals as goal

pub loop-lang-preserved : goal.loop-lang-preserved
loop-lang-preserved c =
    all_more (IsHeaded (lent_project c.args.project.now)) c.args.langs.now c.loop-lang.lang-index c.lang-item.result c.loop-lang-test.true c.lang-item.is c.loop-lang.invariant
    (c.in_ok-is_headed.ensures.0 c.if-not-branch.false)

pub returns-then-not-branch : goal.returns-then-not-branch
returns-then-not-branch c =
    one_failed (IsHeaded (lent_project c.args.project.now)) c.args.langs.now c.loop-lang.lang-index c.lang-item.result c.in_ok-is_headed.field-0 c.loop-lang-test.true c.lang-item.is
    c.in_ok-is_headed.ensures c.if-not-branch.true

pub returns : goal.returns
returns c = all_passed (IsHeaded (lent_project c.args.project.now)) c.args.langs.now c.loop-lang.lang-index c.loop-lang-test.false c.loop-lang.invariant
