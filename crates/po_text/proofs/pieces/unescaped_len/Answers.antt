use Rattle.std.proofs.Common.{length, ◌+◌, sym, ◌∙◌, ap, arith, rules}
use Rattle.po_text.proofs.PieceCuts.{letter_len, other_len}
use Rattle.po_text.proofs.pieces.unescaped_len.Goals as goal

pub loop-front-preserved-in-Some-split_letter : goal.loop-front-preserved-in-Some-split_letter
loop-front-preserved-in-Some-split_letter c =
    let lens = c.in-Some.ensures.lengths in
    let same = letter_len c.loop-front.rest.now c.in-Some.front.now c.in-Some.behind.now c.in-Some-split_letter.more.now _ c.in-Some.ensures.cut c.in-Some-split_letter.ensures.value in
    record { text = search rules; same = omega arith; fits = omega (arith, c.in-Some-split_letter.ensures.shorter) }

pub loop-front-preserved : goal.loop-front-preserved
loop-front-preserved c =
    let lens = c.in-Some.ensures.lengths in
    let same = other_len c.loop-front.rest.now c.in-Some.front.now c.in-Some.behind.now c.in-Some.ensures.cut c.in-None.ensures.value in
    record { text = search rules; same = omega arith; fits = omega arith }

pub returns-clause-value : goal.returns-clause-value
returns-clause-value c = ap (λ t. c.loop-front.len + length t) (sym c.in_default.ensures.cut) ∙ c.loop-front.invariant.same
