use Rattle.std.proofs.Common.{◌≡◌, vec_len}
use Rattle.office_maps.specs.Rows.{units_in}
use Rattle.office_maps.specs.DisplacedUnits.{at_places, with_all}
use Rattle.office_maps.proofs.unit_rows.add_units.Given as goal

abbrev pub invariant-loop-unit : goal.invariant-loop-unit
invariant-loop-unit l = with_all (at_places l.lang l.left.items) (units_in l.units) ≡ with_all (at_places l.lang l.fn.more.items) (units_in l.fn.units)

abbrev pub decreases-loop-unit : goal.decreases-loop-unit
decreases-loop-unit l = vec_len l.left
