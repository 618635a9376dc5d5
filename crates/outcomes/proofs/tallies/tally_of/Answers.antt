use Rattle.outcomes.proofs.Counted.{none_yet, one_more_counted, all_counted}
use Rattle.outcomes.proofs.tallies.tally_of.Goals as goal

pub loop-unit-init : goal.loop-unit-init
loop-unit-init c = none_yet c.args.template.now.catalogue c.args.units.now c.none-tally.result c.none-tally.ensures

pub loop-unit-preserved : goal.loop-unit-preserved
loop-unit-preserved c =
    one_more_counted c.args.template.now.catalogue c.args.units.now c.loop-unit.unit-index c.unit-item.result c.loop-unit.tally c.count.new.tally
    c.loop-unit-test.true c.unit-item.is c.in_ok-count.ensures c.loop-unit.invariant

pub returns : goal.returns
returns c = all_counted c.args.template.now.catalogue c.args.units.now c.loop-unit.unit-index c.loop-unit.tally c.loop-unit-test.false c.loop-unit.invariant
