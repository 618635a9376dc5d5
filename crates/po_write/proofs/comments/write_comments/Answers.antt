use Rattle.byte_streams.proofs.Sent.{more, whole_sent, stopped}
use Rattle.po_write.proofs.Pieces.{next_item, none_left}
use Rattle.po_write.specs.Text.{comment}
use Rattle.po_write.proofs.comments.write_comments.Goals as goal

pub returns-in_err-write_comment : goal.returns-in_err-write_comment
returns-in_err-write_comment g c = stopped _ _ c.from_residual.ensures.0 c.loop-text.invariant (next_item (comment c.args.mark.now) c.args.texts.now c.loop-text.text-index c.as_str.result.now c.text-item.result c.loop-text-test.true c.text-item.is c.as_str.ensures) c.in_err-write_comment.ensures

pub loop-text-preserved : goal.loop-text-preserved
loop-text-preserved g c = more c.loop-text.invariant (next_item (comment c.args.mark.now) c.args.texts.now c.loop-text.text-index c.as_str.result.now c.text-item.result c.loop-text-test.true c.text-item.is c.as_str.ensures) c.in_ok-write_comment.ensures

pub returns : goal.returns
returns g c = whole_sent c.loop-text.invariant (none_left (comment c.args.mark.now) c.args.texts.now c.loop-text.text-index c.loop-text-test.false)
