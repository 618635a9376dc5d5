use Rattle.std.proofs.Common.{refl, sym, ap, ◌∙◌, drop}
use Rattle.byte_streams.proofs.Sent.{begin, more, stopped, outcome}
use Rattle.po_write.proofs.Pieces.{quote_in_front}
use Rattle.po_write.specs.Text.{front_of, string_lines, string_pieces}
use Rattle.po_write.proofs.strings.write_string.Goals as goal

pub returns-in_err-write_front : goal.returns-in_err-write_front
unfolding string_lines
returns-in_err-write_front g c = stopped _ _ c.from_residual.ensures.0 (begin _ _ (quote_in_front (front_of c.args.mark.now c.args.keyword) c.args.mark.now c.args.string.now)) refl c.in_err-write_front.ensures

pub returns : goal.returns
unfolding string_lines
returns g c = outcome _ _ _ (more (begin _ _ (quote_in_front (front_of c.args.mark.now c.args.keyword) c.args.mark.now c.args.string.now)) refl c.in_ok-write_front.ensures) (ap (λ t. drop 1 (string_pieces c.args.mark.now t)) (sym (c.as_bytes.ensures.value ∙ c.as_str.ensures.value))) c.write_pieces.ensures
