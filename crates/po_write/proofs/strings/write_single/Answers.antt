use Rattle.std.proofs.Common.{refl}
use Rattle.byte_streams.proofs.Sent.{begin, more, whole_sent, stopped}
use Rattle.po_write.proofs.Pieces.{single_next, single_end}
use Rattle.po_write.proofs.strings.write_single.Goals as goal

pub returns-in_err-write_string : goal.returns-in_err-write_string
returns-in_err-write_string g c = stopped _ _ c.from_residual.ensures.0 c.loop-form.invariant (single_next c.args.mark.now c.args.forms.now c.loop-form.form-index c.form-item.result c.loop-form-test.true c.form-item.is) c.in_err-write_string.ensures

pub loop-form-preserved : goal.loop-form-preserved
loop-form-preserved g c = more c.loop-form.invariant (single_next c.args.mark.now c.args.forms.now c.loop-form.form-index c.form-item.result c.loop-form-test.true c.form-item.is) c.in_ok-write_string.ensures

pub loop-form-init : goal.loop-form-init
loop-form-init g c = begin _ _ refl

pub returns : goal.returns
returns g c = whole_sent c.loop-form.invariant (single_end c.args.mark.now c.args.forms.now c.loop-form.form-index c.loop-form-test.false)
