use Rattle.std.proofs.Common.{vec_len}
use Rattle.office_maps.specs.Rows.{units_in}
use Rattle.office_maps.specs.DisplacedUnits.{Units, AreDisplaced}
use Rattle.office_maps.proofs.unit_rows.put_back.Given as goal

abbrev pub invariant-loop-before : goal.invariant-loop-before
invariant-loop-before l = (was : Units) → AreDisplaced was l.fn.befores.items (units_in l.fn.units) → AreDisplaced was l.left.items (units_in l.units)

abbrev pub decreases-loop-before : goal.decreases-loop-before
decreases-loop-before l = vec_len l.left
