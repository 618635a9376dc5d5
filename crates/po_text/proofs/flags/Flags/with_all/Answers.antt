use Rattle.std.proofs.Common.{lit<, sym, ◌∙◌, ap, rules}
use Rattle.std.specs.List.{fold}
use Rattle.std.proofs.lemmas.Str.Pattern.{split_parts}
use Rattle.std.proofs.lemmas.Result.{IfOk-weaker}
use Rattle.po_lex.specs.Lines.{items_of}
use Rattle.po_text.specs.Flags.{add_once}
use Rattle.po_text.proofs.FlagLemmas.{items_cut, items_last}
use Rattle.po_text.proofs.flags.Flags.with_all.Goals as goal

pub loop-item-preserved : goal.loop-item-preserved
loop-item-preserved c =
    let parts = split_parts 44 c.loop-item.rest.now c.split_once.result c.split_once.ensures.cases (lit< tt) in
    let cut = items_cut c.loop-item.rest.now c.in-Some.item.now c.in-Some.more.now (rw c.in-Some.is at parts) in
    record { text = search rules; same = ap (λ s. fold add_once s (items_of c.in-Some.more.now)) (c.in_ok-flags.ensures ∙ ap (add_once c.loop-item.flags) c.trim.ensures) ∙ ap (fold add_once c.loop-item.flags) (sym cut) ∙ c.loop-item.invariant.same }

pub returns : goal.returns
returns c =
    let parts = split_parts 44 c.loop-item.rest.now c.split_once.result c.split_once.ensures.cases (lit< tt) in
    let last = items_last c.loop-item.rest.now (rw c.in_default.is at parts) in
    IfOk-weaker c.with-2.result _ _
    (λ flags e. e ∙ ap (add_once c.loop-item.flags) c.trim-2.ensures ∙ ap (fold add_once c.loop-item.flags) (sym last) ∙ c.loop-item.invariant.same)
    c.with-2.ensures
