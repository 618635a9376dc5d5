use Rattle.std.proofs.Common.{subst, sym}
use Rattle.office_maps.specs.Rows.{units_in}
use Rattle.office_maps.specs.DisplacedUnits.{AreDisplaced, IsDisplaced}
use Rattle.office_maps.proofs.UnitRows.{led-push}
use Rattle.office_maps.proofs.unit_rows.put_one.Goals as goal

pub returns-in-Ok-clause-befores : goal.returns-in-Ok-clause-befores
returns-in-Ok-clause-befores c = λ was led.
    subst (λ bs. AreDisplaced was bs (units_in c.replace.new.units)) (sym c.in-Ok.ensures.items)
    (led-push was c.args.befores.now.items c.in_ok-before.before (units_in c.args.units.now) (units_in c.replace.new.units) led c.in_ok-before.ensures.before)

pub returns-in-Err-clause-err : goal.returns-in-Err-clause-err
returns-in-Err-clause-err c =
    c.put_one_back.ensures (units_in c.args.units.now)
    (subst (λ b. IsDisplaced (units_in c.args.units.now) b (units_in c.replace.new.units)) (sym c.in-Err.ensures.value_returned) c.in_ok-before.ensures.before)
