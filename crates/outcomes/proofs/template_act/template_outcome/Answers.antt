use Rattle.std.proofs.Common.{ap, ◌∙◌}
use Rattle.office_specification.proofs.rules.PlanRows.{read_valid}
use Rattle.outcomes.specs.Settled.{told}
use Rattle.outcomes.proofs.template_act.template_outcome.Goals as goal

pub follow_template-requires : goal.follow_template-requires
follow_template-requires c = record { valid = read_valid c.args.po.now c.in-Ok.text (c.in_ok-text.ensures ∙ ap told c.in-Ok.is) }
