use Rattle.std.proofs.lemmas.Result.{IfOk-weaker}
use Rattle.office_maps.specs.OfficeIn.{lent_project}
use Rattle.rule_tests.proofs.ProjectTests.{bare_told, no_bare}
use Rattle.rule_tests.proofs.project_rules.keeps_bare_rules.Goals as goal

pub returns : goal.returns
returns c =
    IfOk-weaker c.are_headed.result _ _
    (λ are tells. bare_told (lent_project c.args.project.now) c.args.langs.now c.keeps_frame.result are c.requires.all c.keeps_frame.ensures c.if-not-keeps_frame.false tells) c.are_headed.ensures

pub returns-then-not-keeps_frame : goal.returns-then-not-keeps_frame
returns-then-not-keeps_frame c = no_bare (lent_project c.args.project.now) c.keeps_frame.result c.keeps_frame.ensures c.if-not-keeps_frame.true
