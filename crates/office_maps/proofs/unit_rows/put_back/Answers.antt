use Rattle.std.proofs.Common.{subst, sym}
use Rattle.office_maps.specs.Rows.{units_in}
use Rattle.office_maps.specs.DisplacedUnits.{AreDisplaced}
use Rattle.office_maps.proofs.UnitRows.{led-pop}
use Rattle.office_maps.proofs.unit_rows.put_back.Goals as goal

pub loop-before-preserved : goal.loop-before-preserved
loop-before-preserved c = λ was led.
    let before = led-pop was c.pop.new.self.items c.in-Some.before (units_in c.loop-before.units)
    (subst (λ bs. AreDisplaced was bs (units_in c.loop-before.units)) c.in-Some.ensures.items (c.loop-before.invariant was led)) in
    subst (AreDisplaced was c.pop.new.self.items) (sym (c.put_one_back.ensures before.0 before.2)) before.1
