use Rattle.byte_streams.proofs.Sent.{more, stopped, whole_sent}
use Rattle.po_write.proofs.Pushes.{entry_left, no_entry_left}
use Rattle.po_write.proofs.catalogue.send_entries.Goals as goal

pub returns-in_err-send_separated : goal.returns-in_err-send_separated
returns-in_err-send_separated g c =
    stopped _ _ c.from_residual.ensures.0 c.loop-i.invariant (entry_left c.args.entries.now c.loop-i.i c.index-entries-i.result c.loop-i-test.true c.index-entries-i.is) c.in_err-send_separated.ensures

pub loop-i-preserved : goal.loop-i-preserved
loop-i-preserved g c =
    more c.loop-i.invariant (entry_left c.args.entries.now c.loop-i.i c.index-entries-i.result c.loop-i-test.true c.index-entries-i.is) c.in_ok-send_separated.ensures

pub returns : goal.returns
returns g c = whole_sent c.loop-i.invariant (no_entry_left c.args.entries.now c.loop-i.i c.loop-i-test.false)
