use Rattle.sql_keepable.specs.Keepable.{IsKeepableEntry}
use Rattle.sql_keepable.proofs.Lists.{one_more, walked, each_of}
use Rattle.sql_keepable.proofs.entries.entries_fit.Goals as goal

pub loop-entry-preserved : goal.loop-entry-preserved
loop-entry-preserved c =
    one_more IsKeepableEntry c.args.entries.now c.loop-entry.entry-index c.entry-item.result c.loop-entry-test.true c.entry-item.is c.loop-entry.invariant c.entry_fits.ensures

pub returns : goal.returns
returns c = each_of IsKeepableEntry c.args.entries.now (walked IsKeepableEntry c.args.entries.now c.loop-entry.entry-index c.loop-entry-test.false c.loop-entry.invariant)
