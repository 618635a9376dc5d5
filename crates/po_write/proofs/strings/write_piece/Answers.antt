use Rattle.std.proofs.Common.{refl}
use Rattle.byte_streams.proofs.Sent.{begin, more, stopped, outcome}
use Rattle.po_write.proofs.Pieces.{quoted_cut}
use Rattle.po_write.proofs.strings.write_piece.Goals as goal

pub returns-in_err-send : goal.returns-in_err-send
returns-in_err-send g c = stopped _ _ c.from_residual.ensures.0 (begin _ _ (quoted_cut c.args.piece.now)) refl c.in_err-send.ensures

pub returns-in_err-write_escaped : goal.returns-in_err-write_escaped
returns-in_err-write_escaped g c = stopped _ _ c.from_residual-in_err-write_escaped.ensures.0 (more (begin _ _ (quoted_cut c.args.piece.now)) refl c.in_ok-send.ensures) refl c.in_err-write_escaped.ensures

pub returns : goal.returns
returns g c = outcome _ _ _ (more (more (begin _ _ (quoted_cut c.args.piece.now)) refl c.in_ok-send.ensures) refl c.in_ok-write_escaped.ensures) refl c.send-2.ensures
