use Rattle.std.proofs.Common.{◌+◌, sym, ap, ◌∙◌, arith}
use Rattle.std.proofs.lemmas.List.Sums.{count_by_more_yes, count_by_more_no}
use Rattle.template_update.specs.Loads.{is_in}
use Rattle.template_update.proofs.loading.count_loaded.Goals.{then-is_in, else-is_in}
use Rattle.template_update.proofs.loading.count_loaded.Goals as goal

pub loop-entry-preserved : goal.loop-entry-preserved
loop-entry-preserved c =
    elim c.if-is_in.branch [
      | then-is_in w ↦ (
        λ entries indexed. w.count-is ∙ ap (λ n. n + 1) (c.loop-entry.invariant.0 entries indexed)
            ∙ sym (count_by_more_yes (is_in entries) c.args.template.now c.loop-entry.entry-index c.entry-item.result c.loop-entry-test.true
            (ap (is_in entries) (sym c.entry-item.is) ∙ sym (c.is_in.ensures entries indexed) ∙ w.if-is_in.true)),
        omega (arith, c.loop-entry.invariant.1, w.count-is),
      )
      | else-is_in w ↦ (
        λ entries indexed. w.count-is ∙ c.loop-entry.invariant.0 entries indexed
            ∙ sym (count_by_more_no (is_in entries) c.args.template.now c.loop-entry.entry-index c.entry-item.result c.loop-entry-test.true
            (ap (is_in entries) (sym c.entry-item.is) ∙ sym (c.is_in.ensures entries indexed) ∙ w.if-is_in.false)),
        omega (arith, c.loop-entry.invariant.1, w.count-is),
      )
    ]
