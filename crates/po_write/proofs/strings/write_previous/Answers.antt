use Rattle.std.proofs.Common.{refl}
use Rattle.byte_streams.proofs.Sent.{begin, more, stopped, outcome}
use Rattle.po_write.proofs.Pieces.{three_cut}
use Rattle.po_lex.specs.declared.line.Keyword.TheVariants.{Msgctxt, Msgid, MsgidPlural}
use Rattle.po_text.specs.Entries.{optional}
use Rattle.po_write.specs.Text.{string_lines}
use Rattle.po_write.proofs.strings.write_previous.Goals as goal

pub returns-in_err-write_optional : goal.returns-in_err-write_optional
returns-in_err-write_optional g c = stopped _ _ c.from_residual.ensures.0 (begin _ _ (three_cut (string_lines c.args.mark.now) (optional Msgctxt c.args.previous.now.ctx) (optional Msgid c.args.previous.now.id) (optional MsgidPlural c.args.previous.now.plural))) refl c.in_err-write_optional.ensures

pub returns-in_err-write_optional-2 : goal.returns-in_err-write_optional-2
returns-in_err-write_optional-2 g c = stopped _ _ c.from_residual-in_err-write_optional-2.ensures.0 (more (begin _ _ (three_cut (string_lines c.args.mark.now) (optional Msgctxt c.args.previous.now.ctx) (optional Msgid c.args.previous.now.id) (optional MsgidPlural c.args.previous.now.plural))) refl c.in_ok-write_optional.ensures) refl c.in_err-write_optional-2.ensures

pub returns : goal.returns
returns g c = outcome _ _ _ (more (more (begin _ _ (three_cut (string_lines c.args.mark.now) (optional Msgctxt c.args.previous.now.ctx) (optional Msgid c.args.previous.now.id) (optional MsgidPlural c.args.previous.now.plural))) refl c.in_ok-write_optional.ensures) refl c.in_ok-write_optional-2.ensures) refl c.write_optional-3.ensures
