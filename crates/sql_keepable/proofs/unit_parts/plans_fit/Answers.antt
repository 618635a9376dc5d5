use Rattle.std.proofs.Common.{List, subst}
use Rattle.units.specs.declared.unit.Unit.{Unit}
use Rattle.sql_keepable.specs.Keepable.{AreKeepableUnits, IsKeepablePlan}
use Rattle.sql_keepable.proofs.Lists.{one_more, walked, each_of}
use Rattle.sql_keepable.proofs.unit_parts.plans_fit.Goals as goal

pub loop-plan-preserved : goal.loop-plan-preserved
loop-plan-preserved c =
    one_more IsKeepablePlan c.args.plans.now c.loop-plan.plan-index c.plan-item.result c.loop-plan-test.true c.plan-item.is c.loop-plan.invariant
    (subst (λ (us : List Unit). AreKeepableUnits c.plan-item.result.0 us) c.as_slice.ensures c.units_fit.ensures)

pub returns : goal.returns
returns c = each_of IsKeepablePlan c.args.plans.now (walked IsKeepablePlan c.args.plans.now c.loop-plan.plan-index c.loop-plan-test.false c.loop-plan.invariant)
