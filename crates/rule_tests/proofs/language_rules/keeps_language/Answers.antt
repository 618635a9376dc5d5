use Rattle.office_maps.specs.OfficeIn.{lent_project}
use Rattle.rule_tests.proofs.LanguageTests.{language_told}
use Rattle.rule_tests.proofs.language_rules.keeps_language.Goals as goal

pub returns : goal.returns
returns c =
    language_told (lent_project c.args.project.now) c.args.lang.now c.args.language.now.header c.entries-entries.result.now c.hold_all.result c.in_ok-headed.headed c.in_ok-few.few c.in_ok-whole.whole c.requires
    c.entries-entries.ensures.value c.hold_all.ensures c.in_ok-headed.ensures c.in_ok-few.ensures c.in_ok-whole.ensures
