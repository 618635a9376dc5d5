use Rattle.std.proofs.Common.{length, refl, sym, ap, ◌∙◌, arith}
use Rattle.std.proofs.lemmas.Iterator.{YieldsList-from_chars}
use Rattle.std.proofs.lemmas.Iterator.Consumers.{YieldsList-turn, YieldsList-end}
use Rattle.std.proofs.lemmas.List.{length_push, take_all}
use Rattle.std.proofs.lemmas.List.Folds.{list_any_at, list_any_more}
use Rattle.std.specs.List.{list_any}
use Rattle.std.specs.Str.{chars}
use Rattle.client.specs.Answers.{is_unseen}
use Rattle.client.proofs.answer.has_unseen.Goals as goal

pub returns-then-is_unseen : goal.returns-then-is_unseen
returns-then-is_unseen c =
    let t = YieldsList-turn (YieldsList-from_chars c.args.text.now c.utf8.text cc) c.loop-c.yielded _ c.loop-c.yielded_by _ _ c.in-Some.c c.in-Some.is c.next.ensures.steps in
    sym (list_any_at is_unseen (chars c.args.text.now) (length c.loop-c.yielded) c.in-Some.c t.0 (ap is_unseen (sym t.1) ∙ (sym c.is_unseen.ensures ∙ c.if-is_unseen.true)))

pub loop-c-preserved : goal.loop-c-preserved
loop-c-preserved c =
    let t = YieldsList-turn (YieldsList-from_chars c.args.text.now c.utf8.text cc) c.loop-c.yielded _ c.loop-c.yielded_by _ _ c.in-Some.c c.in-Some.is c.next.ensures.steps in
    let n = length_push c.loop-c.yielded c.in-Some.c in
    let more = list_any_more is_unseen (chars c.args.text.now) (length c.loop-c.yielded) c.in-Some.c t.0 in
    let this = ap is_unseen (sym t.1) ∙ (sym c.is_unseen.ensures ∙ c.if-is_unseen.false) in
    rw n (rw more (rw (c.loop-c.invariant, this) refl))

pub returns : goal.returns
returns c =
    let t = YieldsList-end (YieldsList-from_chars c.args.text.now c.utf8.text cc) c.loop-c.yielded _ c.loop-c.yielded_by _ _ c.in-None.is c.next.ensures.steps in
    sym (ap (list_any is_unseen) (sym (take_all (length c.loop-c.yielded) (chars c.args.text.now) (omega (arith, t.1)))) ∙ c.loop-c.invariant)
