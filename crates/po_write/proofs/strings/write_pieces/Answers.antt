use Rattle.std.proofs.Common.{refl}
use Rattle.byte_streams.proofs.Sent.{begin, more, stopped, outcome}
use Rattle.po_write.proofs.Pieces.{many_behind_quote, one_behind_quote}
use Rattle.po_write.proofs.strings.write_pieces.Goals as goal

pub returns-in_err-send : goal.returns-in_err-send
returns-in_err-send g c = stopped _ _ c.from_residual.ensures.0 (begin _ _ (many_behind_quote c.args.mark.now c.args.string.now c.piece_len.result (record { some = c.piece_len.ensures.some; before = c.piece_len.ensures.before; last = c.piece_len.ensures.last; within = c.piece_len.ensures.within }) c.if-piece_len-string.true)) refl c.in_err-send.ensures

pub returns-in_ok-send : goal.returns-in_ok-send
returns-in_ok-send g c = outcome _ _ _ (more (begin _ _ (many_behind_quote c.args.mark.now c.args.string.now c.piece_len.result (record { some = c.piece_len.ensures.some; before = c.piece_len.ensures.before; last = c.piece_len.ensures.last; within = c.piece_len.ensures.within }) c.if-piece_len-string.true)) refl c.in_ok-send.ensures) refl c.write_piece_lines.ensures

pub returns-in_err-write_escaped : goal.returns-in_err-write_escaped
returns-in_err-write_escaped g c = stopped _ _ c.from_residual-in_err-write_escaped.ensures.0 (begin _ _ (one_behind_quote c.args.mark.now c.args.string.now c.piece_len.result (record { some = c.piece_len.ensures.some; before = c.piece_len.ensures.before; last = c.piece_len.ensures.last; within = c.piece_len.ensures.within }) c.if-piece_len-string.false)) refl c.in_err-write_escaped.ensures

pub returns-in_ok-write_escaped : goal.returns-in_ok-write_escaped
returns-in_ok-write_escaped g c = outcome _ _ _ (more (begin _ _ (one_behind_quote c.args.mark.now c.args.string.now c.piece_len.result (record { some = c.piece_len.ensures.some; before = c.piece_len.ensures.before; last = c.piece_len.ensures.last; within = c.piece_len.ensures.within }) c.if-piece_len-string.false)) refl c.in_ok-write_escaped.ensures) refl c.send-else-piece_len-string.ensures
