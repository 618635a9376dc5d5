use Rattle.std.proofs.Common.{refl, ap}
use Rattle.byte_streams.proofs.Sent.{begin, more, stopped, outcome}
use Rattle.po_write.specs.Text.{entry_text, separated}
use Rattle.po_write.proofs.writing.send_separated.Goals as goal

pub returns-in_err-send : goal.returns-in_err-send
returns-in_err-send g c = stopped _ (entry_text c.args.entry.now) c.from_residual.ensures.0 (begin _ _ (ap (λ begun. separated begun (entry_text c.args.entry.now)) c.if-not-begun.false)) refl c.in_err-send.ensures

pub returns : goal.returns
returns g c = outcome _ _ _ (more (begin _ _ (ap (λ begun. separated begun (entry_text c.args.entry.now)) c.if-not-begun.false)) refl c.in_ok-send.ensures) refl c.send_entry-2.ensures
