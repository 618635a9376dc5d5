use Rattle.std.proofs.Common.{◌∙◌, ap, sym}
use Rattle.office_maps.specs.Rows.{units_in}
use Rattle.office_maps.specs.DisplacedUnits.{at_places, with_all}
use Rattle.office_maps.proofs.UnitRows.{one_added, nothing_left}
use Rattle.office_maps.proofs.unit_rows.add_units.Goals as goal

pub loop-unit-preserved : goal.loop-unit-preserved
loop-unit-preserved c =
    one_added c.args.lang.now c.loop-unit.left.items c.pop.new.self.items c.in-Some.unit (units_in c.loop-unit.units) (units_in c.add_unit.new.units)
    (with_all (at_places c.args.lang.now c.args.more.items) (units_in c.args.units.now)) c.in_ok-add_unit.ensures c.in-Some.ensures.items c.loop-unit.invariant

pub returns : goal.returns
returns c =
    ap (λ us. with_all (at_places c.args.lang.now us) (units_in c.loop-unit.units)) (sym (nothing_left c.loop-unit.left.items c.loop-unit.left.len c.loop-unit.left.ok.0 c.in_default.ensures.cases.0))
    ∙ c.loop-unit.invariant
