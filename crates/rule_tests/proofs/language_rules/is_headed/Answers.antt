use Rattle.rule_tests.proofs.LanguageTests.{headed_told, none_headed}
use Rattle.rule_tests.proofs.PlaceTests.{header_there, no_header}
use Rattle.std.proofs.lemmas.Result.{IfOk-weaker}
use Rattle.rule_tests.proofs.language_rules.is_headed.Goals as goal

pub returns-in-Some : goal.returns-in-Some
returns-in-Some c =
    IfOk-weaker c.is_language.result _ _
    (λ is tells. headed_told c.args.project.now c.args.lang.now c.in-Some.language.now.header is (header_there c.args.project.now c.args.lang.now c.in-Some.language.now c.in-Some.ensures) tells) c.is_language.ensures

pub returns-in-None : goal.returns-in-None
returns-in-None c = none_headed c.args.project.now c.args.lang.now (no_header c.args.project.now c.args.lang.now c.in-None.ensures)
