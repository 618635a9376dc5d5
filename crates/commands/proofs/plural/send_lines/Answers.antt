use Rattle.std.proofs.Common.{◌∙◌}
use Rattle.byte_streams.proofs.Sent.{more, stopped}
use Rattle.commands.proofs.PluralLemmas.{line_next, fault_next}
use Rattle.commands.proofs.plural.send_lines.Goals as goal

pub returns-in_err-send_line-in-Ok-clause-lines : goal.returns-in_err-send_line-in-Ok-clause-lines
returns-in_err-send_line-in-Ok-clause-lines g c =
    stopped _ _ c.from_residual.ensures.0 c.loop-n.invariant.lines
    (line_next c.args.forms.now c.args.ns.now c.loop-n.n-index c.in-Ok.form c.loop-n-test.true c.in-Ok.ensures.value)
    c.in_err-send_line-in-Ok.ensures

pub loop-n-preserved : goal.loop-n-preserved
loop-n-preserved g c = record {
  lines = more c.loop-n.invariant.lines (line_next c.args.forms.now c.args.ns.now c.loop-n.n-index c.in-Ok.form c.loop-n-test.true c.in-Ok.ensures.value) c.in_ok-send_line-in-Ok.ensures;
  end = c.loop-n.invariant.end ∙ fault_next c.args.forms.now c.args.ns.now c.loop-n.n-index c.in-Ok.form c.loop-n-test.true c.in-Ok.ensures.value;
}
