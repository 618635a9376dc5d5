use Rattle.std.proofs.Common.{sym, ◌∙◌, ap}
use Rattle.std.specs.Str.{str_eq_ignore_ascii_case}
use Rattle.http_messages.proofs.LineLemmas.{both_true}
use Rattle.http_messages.proofs.ValueLemmas.{found_here, found_nowhere}
use Rattle.http_messages.proofs.lines.has_value.Goals as goal

pub returns-then-is_alike-2 : goal.returns-then-is_alike-2
returns-then-is_alike-2 c =
    found_here c.args.bytes.now c.args.name.now c.args.value.now c.args.lines.now c.loop-line.line-index c.loop-line-test.true
    (both_true _ _
    (ap (λ t. str_eq_ignore_ascii_case t c.args.name.now) (sym c.of.ensures) ∙ sym c.is_alike.ensures ∙ c.if-is_alike.true)
    (ap (λ t. str_eq_ignore_ascii_case t c.args.value.now) (sym c.of-then-is_alike.ensures) ∙ sym c.is_alike-then-is_alike.ensures ∙ c.if-is_alike-2.true))

pub returns : goal.returns
returns c = found_nowhere c.args.bytes.now c.args.name.now c.args.value.now c.args.lines.now c.loop-line.line-index c.loop-line-test.false c.loop-line.invariant
