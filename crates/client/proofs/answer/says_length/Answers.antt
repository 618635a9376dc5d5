use Rattle.std.proofs.Common.{map, arith, sym, ap, ◌∙◌}
use Rattle.std.proofs.lemmas.Grind.{common_steps}
use Rattle.httparse.specs.Spans.{header_bytes}
use Rattle.po_text.specs.Texts.{Text}
use Rattle.client.specs.Answers.{lines_say}
use Rattle.client.proofs.AnswerLemmas.{other_line}
use Rattle.client.proofs.answer.says_length.Goals as goal

pub returns-then-is_other : goal.returns-then-is_other
returns-then-is_other c =
    other_line c.args.answer.now c.as_bytes-digits.result.now c.args.headers.now c.loop-header.header-index _ c.loop-header-test.true
    (sym (rw (c.of-name.ensures, c.of-value.ensures) at c.is_other.ensures) ∙ c.if-is_other.true)
    ∙ ap (λ (digits : Text). lines_say digits (map (header_bytes c.args.answer.now) c.args.headers.now)) (c.as_bytes-digits.ensures.value ∙ c.format.ensures.text)

pub loop-header-preserved : goal.loop-header-preserved
loop-header-preserved c = grind (arith, common_steps)

pub returns : goal.returns
returns c = grind (arith, common_steps)
