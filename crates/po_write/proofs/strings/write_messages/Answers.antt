use Rattle.std.proofs.Common.{refl, sym, ap, ◌∙◌}
use Rattle.byte_streams.proofs.Sent.{begin, more, stopped, outcome}
use Rattle.po_write.proofs.Pieces.{four_cut}
use Rattle.std.proofs.Common.{None}
use Rattle.std.specs.Prelude.{flat_map}
use Rattle.po_lex.specs.declared.line.Keyword.TheVariants.{Msgctxt, Msgid, MsgidPlural}
use Rattle.po_text.specs.Entries.{optional, keyed_forms, numbered}
use Rattle.po_write.specs.Text.{string_lines}
use Rattle.po_write.proofs.strings.write_messages.Goals as goal

pub returns-in_err-write_optional : goal.returns-in_err-write_optional
returns-in_err-write_optional g c = stopped _ _ c.from_residual.ensures.0 (begin _ _ (four_cut (string_lines c.args.mark.now) (optional Msgctxt c.args.entry.now.ctx) (Msgid, c.args.entry.now.id) (optional MsgidPlural c.args.entry.now.plural) (keyed_forms c.args.entry.now.plural c.args.entry.now.forms))) refl c.in_err-write_optional.ensures

pub returns-in_err-write_string : goal.returns-in_err-write_string
returns-in_err-write_string g c = stopped _ _ c.from_residual-in_err-write_string.ensures.0 (more (begin _ _ (four_cut (string_lines c.args.mark.now) (optional Msgctxt c.args.entry.now.ctx) (Msgid, c.args.entry.now.id) (optional MsgidPlural c.args.entry.now.plural) (keyed_forms c.args.entry.now.plural c.args.entry.now.forms))) refl c.in_ok-write_optional.ensures) refl c.in_err-write_string.ensures

pub returns-in_err-write_optional-2 : goal.returns-in_err-write_optional-2
returns-in_err-write_optional-2 g c = stopped _ _ c.from_residual-in_err-write_optional-2.ensures.0 (more (more (begin _ _ (four_cut (string_lines c.args.mark.now) (optional Msgctxt c.args.entry.now.ctx) (Msgid, c.args.entry.now.id) (optional MsgidPlural c.args.entry.now.plural) (keyed_forms c.args.entry.now.plural c.args.entry.now.forms))) refl c.in_ok-write_optional.ensures) refl c.in_ok-write_string.ensures) refl c.in_err-write_optional-2.ensures

pub returns-in-None : goal.returns-in-None
returns-in-None g c = outcome _ _ _ (more (more (more (begin _ _ (four_cut (string_lines c.args.mark.now) (optional Msgctxt c.args.entry.now.ctx) (Msgid, c.args.entry.now.id) (optional MsgidPlural c.args.entry.now.plural) (keyed_forms c.args.entry.now.plural c.args.entry.now.forms))) refl c.in_ok-write_optional.ensures) refl c.in_ok-write_string.ensures) refl c.in_ok-write_optional-2.ensures) (ap (λ p. flat_map (string_lines c.args.mark.now) (keyed_forms p c.args.entry.now.forms)) c.in-None.is ∙ ap (λ xs. flat_map (string_lines c.args.mark.now) (keyed_forms None xs)) (sym c.as_slice.ensures.value)) c.write_single.ensures

pub returns-in-Some : goal.returns-in-Some
returns-in-Some g c = outcome _ _ _ (more (more (more (begin _ _ (four_cut (string_lines c.args.mark.now) (optional Msgctxt c.args.entry.now.ctx) (Msgid, c.args.entry.now.id) (optional MsgidPlural c.args.entry.now.plural) (keyed_forms c.args.entry.now.plural c.args.entry.now.forms))) refl c.in_ok-write_optional.ensures) refl c.in_ok-write_string.ensures) refl c.in_ok-write_optional-2.ensures) (ap (λ p. flat_map (string_lines c.args.mark.now) (keyed_forms p c.args.entry.now.forms)) c.in-Some.is ∙ ap (λ xs. flat_map (string_lines c.args.mark.now) (numbered 0 xs)) (sym c.as_slice-in-Some.ensures.value)) c.write_numbered.ensures
