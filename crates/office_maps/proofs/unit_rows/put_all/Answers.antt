use Rattle.std.proofs.Common.{subst, sym}
use Rattle.office_maps.specs.Rows.{units_in}
use Rattle.office_maps.specs.DisplacedUnits.{AreDisplaced}
use Rattle.office_maps.proofs.UnitRows.{one_more_put}
use Rattle.office_maps.proofs.unit_rows.put_all.Goals as goal

pub loop-unit-preserved : goal.loop-unit-preserved
loop-unit-preserved c = record {
  done = one_more_put c.args.lang.now c.loop-unit.yielded c.in-Some.unit (units_in c.args.units.now) (units_in c.loop-unit.units) (units_in c.put_one.new.units) c.loop-unit.invariant.done c.in-Ok.ensures.ok;
  led = c.in-Ok.ensures.befores (units_in c.args.units.now) c.loop-unit.invariant.led;
}

pub returns-in-Err-clause-err : goal.returns-in-Err-clause-err
returns-in-Err-clause-err c =
    let led = subst (λ us. AreDisplaced (units_in c.args.units.now) c.loop-unit.befores.items us) (sym c.in-Err.ensures.err) c.loop-unit.invariant.led in
    c.put_back.ensures (units_in c.args.units.now) (subst (λ bs. AreDisplaced (units_in c.args.units.now) bs (units_in c.put_one.new.units)) (sym c.in-Err.ensures.unnoted) led)
