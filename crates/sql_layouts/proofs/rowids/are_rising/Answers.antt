use Rattle.sql_layouts.proofs.RowidTests.{rising_next, rising_stops, rising_ends}
use Rattle.sql_layouts.proofs.rowids.are_rising.Goals as goal

pub loop-row-preserved : goal.loop-row-preserved
loop-row-preserved c =
    rising_next c.loop-row.last c.args.rows.now c.loop-row.row-index c.row-item.result _ c.loop-row-test.true c.row-item.is c.loop-row.invariant _ c.next_integer-next.result c.next_integer-next.ensures c.in-Some.is

pub returns-in-None : goal.returns-in-None
returns-in-None c =
    rising_stops c.loop-row.last c.args.rows.now c.loop-row.row-index c.row-item.result _ c.loop-row-test.true c.row-item.is c.loop-row.invariant c.next_integer-next.result c.next_integer-next.ensures c.in-None.is

pub returns : goal.returns
returns c = rising_ends c.loop-row.last c.args.rows.now c.loop-row.row-index _ c.loop-row-test.false c.loop-row.invariant
