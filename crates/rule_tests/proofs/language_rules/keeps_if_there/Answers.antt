use Rattle.office_maps.specs.OfficeIn.{lent_project}
use Rattle.rule_tests.proofs.LanguageTests.{there_told, not_there}
use Rattle.rule_tests.proofs.PlaceTests.{header_there}
use Rattle.rule_tests.proofs.language_rules.keeps_if_there.Goals as goal

pub keeps_language-requires : goal.keeps_language-requires
keeps_language-requires c = header_there c.args.project.now c.args.lang.now c.in-Some.language.now c.in-Some.ensures

pub returns-in-Some : goal.returns-in-Some
returns-in-Some c =
    there_told (lent_project c.args.project.now) c.args.lang.now c.in-Some.language.now.header c.keeps_language.result
    (header_there c.args.project.now c.args.lang.now c.in-Some.language.now c.in-Some.ensures) c.keeps_language.ensures

pub returns-in-None : goal.returns-in-None
returns-in-None c = not_there c.args.project.now c.args.lang.now c.in-None.ensures
