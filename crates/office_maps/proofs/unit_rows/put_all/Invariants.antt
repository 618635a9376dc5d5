use Rattle.std.proofs.Common.{◌≡◌}
use Rattle.std.specs.Prelude.{fold}
use Rattle.std.specs.FinMap as maps
use Rattle.office_maps.specs.Rows.{units_in}
use Rattle.office_maps.specs.DisplacedUnits.{AreDisplaced, at_places}
use Rattle.office_maps.proofs.unit_rows.put_all.Given as goal

abbrev pub invariant-loop-unit : goal.invariant-loop-unit
invariant-loop-unit l = record {
  done : units_in l.units ≡ fold (λ m e. maps.insert m e.0 e.1) (units_in l.fn.units) (at_places l.lang l.yielded);
  led : AreDisplaced (units_in l.fn.units) l.befores.items (units_in l.units);
}
