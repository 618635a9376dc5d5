use Rattle.std.proofs.Common.{not, [], ◌∷◌, ◌++◌, take, sym, ap, ◌∙◌}
use Rattle.po_text.specs.Texts.{Text, text_eq}
use Rattle.po_text.specs.Valid.{fuzzy}
use Rattle.template_update.specs.Templates.{without_fuzzy}
use Rattle.template_update.proofs.Taken.{next_taken, filter-more, filter-same}
use Rattle.template_update.proofs.template.without_fuzzy.Goals.{then-not-is_fuzzy_flag+in_ok-duplicate+in_ok-push, else-not-is_fuzzy_flag}
use Rattle.template_update.proofs.template.without_fuzzy.Goals as goal

pub loop-flag-preserved : goal.loop-flag-preserved
loop-flag-preserved c =
    let test = λ (flag : Text). not (text_eq fuzzy flag) in
    let front = take c.loop-flag.flag-index c.args.flags.now in
    let taken = next_taken c.args.flags.now c.loop-flag.flag-index c.flag-item.result c.loop-flag-test.true c.flag-item.is in
    elim c.if-not-is_fuzzy_flag.branch [
      | then-not-is_fuzzy_flag+in_ok-duplicate+in_ok-push w ↦
          w.kept-is ∙ w.in_ok-push.ensures.ok ∙ (λ i. c.loop-flag.invariant i ++ w.in_ok-duplicate.ensures i ∷ [])
          ∙ sym (filter-more test front c.flag-item.result (ap not (sym c.is_fuzzy_flag.ensures ∙ w.if-not-is_fuzzy_flag.true))) ∙ ap without_fuzzy (sym taken)
      | else-not-is_fuzzy_flag w ↦
          w.kept-is ∙ c.loop-flag.invariant
          ∙ sym (filter-same test front c.flag-item.result (ap not (sym c.is_fuzzy_flag.ensures ∙ w.if-not-is_fuzzy_flag.false))) ∙ ap without_fuzzy (sym taken)
    ]
