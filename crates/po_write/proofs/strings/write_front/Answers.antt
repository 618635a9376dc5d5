use Rattle.std.proofs.Common.{refl}
use Rattle.po_lex.specs.Lines.{keyword_text}
use Rattle.byte_streams.proofs.Sent.{begin, more, stopped, outcome}
use Rattle.po_write.proofs.Pieces.{front_and_quote}
use Rattle.po_write.proofs.strings.write_front.Goals as goal

pub returns-in_err-send : goal.returns-in_err-send
returns-in_err-send g c = stopped _ _ c.from_residual.ensures.0 (begin _ _ (front_and_quote c.args.mark.now (keyword_text c.args.keyword))) refl c.in_err-send.ensures

pub returns : goal.returns
returns g c = outcome _ _ _ (more (begin _ _ (front_and_quote c.args.mark.now (keyword_text c.args.keyword))) refl c.in_ok-send.ensures) refl c.write_keyword.ensures
