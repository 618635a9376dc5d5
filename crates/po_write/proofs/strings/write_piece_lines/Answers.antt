use Rattle.std.proofs.Common.{refl, arith}
use Rattle.byte_streams.proofs.Sent.{more, whole_sent, stopped}
use Rattle.po_write.proofs.Pieces.{piece_cut, no_pieces, some_left}
use Rattle.po_write.proofs.strings.write_piece_lines.Goals as goal

pub returns-in_err-send : goal.returns-in_err-send
returns-in_err-send g c = stopped _ _ c.from_residual.ensures.0 c.loop-rest.invariant (piece_cut c.args.mark.now c.loop-rest.rest.now c.split_at.result.0.now c.split_at.result.1.now c.piece_len.result (record { some = c.piece_len.ensures.some; before = c.piece_len.ensures.before; last = c.piece_len.ensures.last; within = c.piece_len.ensures.within }) (some_left c.loop-rest.rest.now c.loop-rest-test.ensures) c.split_at.ensures.front c.split_at.ensures.back) c.in_err-send.ensures

pub returns-in_err-write_piece : goal.returns-in_err-write_piece
returns-in_err-write_piece g c = stopped _ _ c.from_residual-in_err-write_piece.ensures.0 (more c.loop-rest.invariant (piece_cut c.args.mark.now c.loop-rest.rest.now c.split_at.result.0.now c.split_at.result.1.now c.piece_len.result (record { some = c.piece_len.ensures.some; before = c.piece_len.ensures.before; last = c.piece_len.ensures.last; within = c.piece_len.ensures.within }) (some_left c.loop-rest.rest.now c.loop-rest-test.ensures) c.split_at.ensures.front c.split_at.ensures.back) c.in_ok-send.ensures) refl c.in_err-write_piece.ensures

pub loop-rest-preserved : goal.loop-rest-preserved
loop-rest-preserved g c = more (more c.loop-rest.invariant (piece_cut c.args.mark.now c.loop-rest.rest.now c.split_at.result.0.now c.split_at.result.1.now c.piece_len.result (record { some = c.piece_len.ensures.some; before = c.piece_len.ensures.before; last = c.piece_len.ensures.last; within = c.piece_len.ensures.within }) (some_left c.loop-rest.rest.now c.loop-rest-test.ensures) c.split_at.ensures.front c.split_at.ensures.back) c.in_ok-send.ensures) refl c.in_ok-write_piece.ensures

pub loop-rest-smaller : goal.loop-rest-smaller
loop-rest-smaller g c = omega (arith, c.split_at.ensures.back_len, c.piece_len.ensures.some (some_left c.loop-rest.rest.now c.loop-rest-test.ensures))

pub returns : goal.returns
returns g c = whole_sent c.loop-rest.invariant (no_pieces c.args.mark.now c.loop-rest.rest.now c.loop-rest-test.ensures)
