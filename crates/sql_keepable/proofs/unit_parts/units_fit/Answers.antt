use Rattle.sql_keepable.specs.Keepable.{IsKeepableUnit}
use Rattle.sql_keepable.proofs.Lists.{one_more, walked, each_of}
use Rattle.sql_keepable.proofs.unit_parts.units_fit.Goals as goal

pub loop-unit-preserved : goal.loop-unit-preserved
loop-unit-preserved c =
    one_more (IsKeepableUnit c.args.lang.now) c.args.units.now c.loop-unit.unit-index c.unit-item.result c.loop-unit-test.true c.unit-item.is c.loop-unit.invariant c.unit_fits.ensures

pub returns : goal.returns
returns c =
    each_of (IsKeepableUnit c.args.lang.now) c.args.units.now
    (walked (IsKeepableUnit c.args.lang.now) c.args.units.now c.loop-unit.unit-index c.loop-unit-test.false c.loop-unit.invariant)
