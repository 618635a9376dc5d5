use Rattle.std.proofs.Common.{sym, ◌∙◌, []}
use Rattle.po_text.proofs.FlagLemmas.{others_yes, others_no}
use Rattle.po_text.proofs.flags.add_others.Goals as goal
use Rattle.po_text.proofs.flags.add_others.Goals.{then-ne+in_ok-add_text, else-ne}

pub loop-flag-preserved : goal.loop-flag-preserved
loop-flag-preserved c =
    elim c.if-ne.branch [
      | then-ne+in_ok-add_text w ↦ others_yes c.loop-flag.texts c.if-ne.texts c.args.texts.now c.args.flags.now c.loop-flag.flag-index (record { ref_ptr = (0, 0); now = [] }) c.loop-flag-test.true (sym c.ne.ensures ∙ w.if-ne.true) c.loop-flag.invariant (w.texts-is ∙ w.in_ok-add_text.ensures)
      | else-ne w ↦ others_no c.loop-flag.texts c.if-ne.texts c.args.texts.now c.args.flags.now c.loop-flag.flag-index (record { ref_ptr = (0, 0); now = [] }) c.loop-flag-test.true (sym c.ne.ensures ∙ w.if-ne.false) c.loop-flag.invariant w.texts-is
    ]
