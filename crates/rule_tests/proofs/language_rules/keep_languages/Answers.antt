use Rattle.office_maps.specs.OfficeIn.{lent_project}
use Rattle.rule_tests.proofs.LanguageTests.{KeepsIfThere}
use Rattle.rule_tests.proofs.Tests.{all_more, all_passed, one_failed}
use Rattle.rule_tests.proofs.language_rules.keep_languages.Goals as goal

pub loop-lang-preserved : goal.loop-lang-preserved
loop-lang-preserved c =
    all_more (KeepsIfThere (lent_project c.args.project.now)) c.args.langs.now c.loop-lang.lang-index c.lang-item.result c.loop-lang-test.true c.lang-item.is c.loop-lang.invariant
    (c.in_ok-keeps_if_there.ensures.0 c.if-not-branch.false)

pub returns-then-not-branch : goal.returns-then-not-branch
returns-then-not-branch c =
    one_failed (KeepsIfThere (lent_project c.args.project.now)) c.args.langs.now c.loop-lang.lang-index c.lang-item.result c.in_ok-keeps_if_there.field-0 c.loop-lang-test.true c.lang-item.is
    c.in_ok-keeps_if_there.ensures c.if-not-branch.true

pub returns : goal.returns
returns c = all_passed (KeepsIfThere (lent_project c.args.project.now)) c.args.langs.now c.loop-lang.lang-index c.loop-lang-test.false c.loop-lang.invariant
