use Rattle.std.proofs.Common.{refl}
use Rattle.po_write.proofs.Pieces.{comment_cut}
use Rattle.byte_streams.proofs.Sent.{begin, more, stopped, outcome}
use Rattle.po_write.proofs.comments.write_comment.Goals as goal

pub returns-in_err-send : goal.returns-in_err-send
returns-in_err-send g c = stopped _ _ c.from_residual.ensures.0 (begin _ _ (comment_cut c.args.mark.now c.args.text.now)) refl c.in_err-send.ensures

pub returns-in_err-write_spaced : goal.returns-in_err-write_spaced
returns-in_err-write_spaced g c = stopped _ _ c.from_residual-in_err-write_spaced.ensures.0 (more (begin _ _ (comment_cut c.args.mark.now c.args.text.now)) refl c.in_ok-send.ensures) refl c.in_err-write_spaced.ensures

pub returns : goal.returns
returns g c = outcome _ _ _ (more (more (begin _ _ (comment_cut c.args.mark.now c.args.text.now)) refl c.in_ok-send.ensures) refl c.in_ok-write_spaced.ensures) refl c.send-2.ensures
