use Rattle.office_maps.specs.OfficeIn.{lent_project}
use Rattle.rule_tests.proofs.ProjectTests.{project_told, no_project}
use Rattle.rule_tests.proofs.project_rules.keeps_project_rules.Goals as goal

pub returns : goal.returns
returns c =
    project_told (lent_project c.args.project.now) c.args.langs.now c.keeps_frame.result c.hold_all.result c.are_placed.result c.in_ok-languages.languages c.requires.all c.keeps_frame.ensures
    c.if-not-keeps_frame.false c.hold_all.ensures c.are_placed.ensures c.in_ok-languages.ensures

pub returns-then-not-keeps_frame : goal.returns-then-not-keeps_frame
returns-then-not-keeps_frame c = no_project (lent_project c.args.project.now) c.keeps_frame.result c.keeps_frame.ensures c.if-not-keeps_frame.true
