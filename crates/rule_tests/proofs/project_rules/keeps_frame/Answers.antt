use Rattle.std.proofs.Common.{ap, leb}
use Rattle.units.specs.Limits.{language_limit}
use Rattle.office_maps.specs.OfficeIn.{lent_project}
use Rattle.rule_tests.proofs.ProjectTests.{frame_told}
use Rattle.rule_tests.proofs.project_rules.keeps_frame.Goals as goal

pub returns : goal.returns
returns c =
    frame_told (lent_project c.args.project.now) c.entries-entries.result.now c.hold_all.result c.is_team.result c.are_template_entries.result (leb c.language_count.result language_limit) c.entries-entries.ensures.value
    c.entries-entries.ensures.valid c.number.ensures.fits c.hold_all.ensures c.is_team.ensures c.are_template_entries.ensures (ap (λ n. leb n language_limit) c.language_count.ensures)
