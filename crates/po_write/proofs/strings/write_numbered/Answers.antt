use Rattle.std.proofs.Common.{refl, arith}
use Rattle.byte_streams.proofs.Sent.{begin, more, whole_sent, stopped}
use Rattle.po_write.proofs.Pieces.{numbered_next, numbered_end}
use Rattle.po_write.proofs.strings.write_numbered.Goals as goal

pub returns-in_err-write_string : goal.returns-in_err-write_string
returns-in_err-write_string g c = stopped _ _ c.from_residual.ensures.0 c.loop-form.invariant.so_far (numbered_next c.args.mark.now c.args.forms.now c.loop-form.number c.loop-form.form-index c.form-item.result c.loop-form-test.true c.form-item.is) c.in_err-write_string.ensures

pub loop-form-preserved : goal.loop-form-preserved
loop-form-preserved g c = record { number = omega arith; so_far = more c.loop-form.invariant.so_far (numbered_next c.args.mark.now c.args.forms.now c.loop-form.number c.loop-form.form-index c.form-item.result c.loop-form-test.true c.form-item.is) c.in_ok-write_string.ensures }

pub loop-form-init : goal.loop-form-init
loop-form-init g c = record { number = refl; so_far = begin _ _ refl }

pub returns : goal.returns
returns g c = whole_sent c.loop-form.invariant.so_far (numbered_end c.args.mark.now c.args.forms.now c.loop-form.number c.loop-form.form-index c.loop-form-test.false)
