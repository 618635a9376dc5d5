use Rattle.std.proofs.Common.{rules}
use Rattle.byte_streams.proofs.Sent.{more, taken_by_write, fits_write}
use Rattle.byte_streams.proofs.sending.send_rest.Goals as goal

pub loop-sent-preserved : goal.loop-sent-preserved
loop-sent-preserved g c = record {
  within = fits_write c.args.bytes.now c.loop-sent.sent c.in_ok-sent.field-0 c.loop-sent.invariant.within c.in_ok-sent.ensures.most;
  so_far = more c.loop-sent.invariant.so_far (taken_by_write c.args.bytes.now c.loop-sent.sent c.in_ok-sent.field-0 c.loop-sent.invariant.within)
      (record { taken = c.in_ok-sent.ensures.ok; count = c.in_ok-sent.ensures.ok_failed });
}

pub loop-sent-init : goal.loop-sent-init
loop-sent-init g c = search rules
