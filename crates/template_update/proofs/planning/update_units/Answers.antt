use Rattle.std.proofs.Common.{take, sym, ◌∙◌}
use Rattle.template_update.proofs.Taken.{next_taken}
use Rattle.template_update.proofs.Updating.{updated_more, past_last}
use Rattle.template_update.proofs.planning.update_units.Goals as goal

pub returns-in-None : goal.returns-in-None
returns-in-None c was will i j =
    past_last was will c.args.rule.now c.args.units.now c.loop-unit.unit-index c.unit-item.result c.loop-unit-test.true c.unit-item.is
    (sym c.in-None.is ∙ c.in_ok-update_one.ensures was will i j)

pub loop-unit-preserved : goal.loop-unit-preserved
loop-unit-preserved c was will i j =
    updated_more was will c.args.rule.now (take c.loop-unit.unit-index c.args.units.now) c.unit-item.result c.loop-unit.done.units.items c.loop-unit.done.updates.items (c.in-Some.update, c.in-Some.after)
    _ c.push.new.self.units.items c.push.new.self.updates.items (c.loop-unit.invariant was will i j) (sym c.in-Some.is ∙ c.in_ok-update_one.ensures was will i j)
    (next_taken c.args.units.now c.loop-unit.unit-index c.unit-item.result c.loop-unit-test.true c.unit-item.is)
    c.in_ok-push-in-Some.ensures.units c.in_ok-push-in-Some.ensures.updates
