use Rattle.std.proofs.Common.{refl, sym}
use Rattle.byte_streams.proofs.Sent.{begin, more, stopped, outcome}
use Rattle.po_write.proofs.comments.write_further.Goals as goal

pub returns-in_err-send : goal.returns-in_err-send
returns-in_err-send g c = stopped _ _ c.from_residual.ensures.0 (begin _ _ refl) refl c.in_err-send.ensures

pub returns : goal.returns
returns g c = outcome _ _ _ (more (begin _ _ refl) refl c.in_ok-send.ensures) (sym c.as_bytes.ensures.value) c.send-2.ensures
