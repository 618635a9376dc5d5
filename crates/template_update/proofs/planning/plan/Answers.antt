use Rattle.std.proofs.Common.{◌∙◌, subst}
use Rattle.template_update.specs.Updates.{plan_of}
use Rattle.template_update.specs.PlannedUnits.{HaveUpdates}
use Rattle.template_update.proofs.Updating.{no_plan}
use Rattle.template_update.proofs.planning.plan.Goals as goal

pub returns-in-None : goal.returns-in-None
returns-in-None c =
    no_plan c.entries.result.now c.entries-next.result.now c.args.rule.now c.args.units.now
    (subst (HaveUpdates c.entries.result.now c.entries-next.result.now c.args.rule.now c.args.units.now) c.in-None.is c.in_ok-updated_units.ensures)
    ∙ (λ i. plan_of (c.entries.ensures.value i) c.args.units.now (c.entries-next.ensures.value i) c.args.rule.now)

pub returns-in_ok-with_new-in-Some : goal.returns-in_ok-with_new-in-Some
returns-in_ok-with_new-in-Some c =
    c.in_ok-with_new-in-Some.ensures c.entries.result.now
    (subst (HaveUpdates c.entries.result.now c.entries-next.result.now c.args.rule.now c.args.units.now) c.in-Some.is c.in_ok-updated_units.ensures)
    ∙ (λ i. plan_of (c.entries.ensures.value i) c.args.units.now (c.entries-next.ensures.value i) c.args.rule.now)
