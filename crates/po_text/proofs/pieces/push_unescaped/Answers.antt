use Rattle.std.proofs.Common.{◌++◌, ◌∙◌, ap, rules}
use Rattle.std.specs.Prelude.{string_bytes}
use Rattle.po_text.proofs.PieceCuts.{pushed_letter, pushed_front, pushed_rest}
use Rattle.po_text.proofs.pieces.push_unescaped.Goals as goal

pub loop-front-preserved-in_ok-push-in-Some-split_letter : goal.loop-front-preserved-in_ok-push-in-Some-split_letter
loop-front-preserved-in_ok-push-in-Some-split_letter c =
    record { utf8 = search rules; same = pushed_letter _ _ _ c.loop-front.rest.now c.in-Some.front.now c.in-Some.behind.now c.in-Some-split_letter.more.now _ c.in-Some-split_letter.character c.in_ok-push_str.ensures.bytes (c.in_ok-push-in-Some-split_letter.ensures.bytes ∙ ap (λ t. string_bytes c.push_str.new.self ++ t) (c.in_ok-push-in-Some-split_letter.ensures.ascii c.in-Some-split_letter.ensures.ascii)) c.in-Some.ensures.cut c.in-Some-split_letter.ensures.value c.loop-front.invariant.same }

pub loop-front-preserved : goal.loop-front-preserved
loop-front-preserved c =
    record { utf8 = search rules; same = pushed_front _ _ c.loop-front.rest.now c.in-Some.front.now c.in-Some.behind.now _ c.in_ok-push_str.ensures.bytes c.in-Some.ensures.cut c.in-None.ensures.value c.loop-front.invariant.same }

pub returns : goal.returns
returns c = pushed_rest c.push_str-2.result _ _ c.loop-front.rest.now _ c.push_str-2.ensures.bytes c.in_default.ensures.cut c.loop-front.invariant.same
