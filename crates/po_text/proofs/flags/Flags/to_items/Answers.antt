use Rattle.std.proofs.Common.{◌≡◌, ◌++◌, ◌∷◌, [], List, cond, sym, ◌∙◌, ap}
use Rattle.std.specs.Prelude.{filter}
use Rattle.po_text.specs.Texts.{Text}
use Rattle.po_text.specs.Valid.{fuzzy}
use Rattle.po_text.proofs.FlagLemmas.{is_other, others, fuzzy_first}
use Rattle.po_text.proofs.flags.Flags.to_items.Goals as goal
use Rattle.po_text.proofs.flags.Flags.to_items.Goals.{then-has+in_ok-add_text, else-has}

pub returns : goal.returns
returns c =
    let front : c.if-has.flags ≡ cond c.has.result (fuzzy ∷ []) [] = elim c.if-has.branch [
      | then-has+in_ok-add_text w ↦ w.flags-is ∙ w.in_ok-add_text.ensures ∙ ap (λ (t : List Text). t ++ fuzzy ∷ []) c.in_ok-flags.ensures ∙ ap (λ b. cond b (fuzzy ∷ []) []) (sym w.if-has.true)
      | else-has w ↦ w.flags-is ∙ c.in_ok-flags.ensures ∙ ap (λ b. cond b (fuzzy ∷ []) []) (sym w.if-has.false)
    ] in
    c.in_ok-add_others.ensures ∙ ap (λ flags. c.if-has.flags ++ others flags) c.as_slice.ensures.value ∙ ap (λ (texts : List Text). c.if-has.flags ++ filter is_other texts) c.self.view_is
    ∙ fuzzy_first c.args.self.now c.if-has.flags c.has.result c.has.ensures front
