use Rattle.std.proofs.Common.{sym, ◌∙◌, true, ◌≡◌}
use Rattle.std.specs.Ordering.{is_lt}
use Rattle.po_text.specs.Texts.{text_cmp}
use Rattle.units.proofs.Placing.{after-last}
use Rattle.units.proofs.votes.stands_last.Goals as goal

pub returns-in-Some : goal.returns-in-Some
returns-in-Some c under =
    let last = c.in-Some.last.now in
    let before : is_lt (text_cmp last.0 c.args.voter.now) ≡ true =
    (λ i. is_lt (text_cmp (sym c.as_str.ensures.value i) (sym c.as_str-in-Some.ensures.value i))) ∙ sym c.lt.ensures ∙ under in
    after-last c.args.voter.now c.args.votes.now last c.requires c.in-Some.ensures.value before
