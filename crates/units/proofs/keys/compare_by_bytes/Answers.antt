use Rattle.std.proofs.Common.{◌<◌, ◌≤◌, length, Some, sym, ◌∙◌, arith}
use Rattle.units.specs.Units.{key_text}
use Rattle.units.proofs.Compared.{differ, next, longer, shorter, ended, at_end}
use Rattle.units.proofs.keys.compare_by_bytes.Goals as goal

pub returns-then-x-y : goal.returns-then-x-y
returns-then-x-y c =
    c.cmp.ensures
    ∙ differ (key_text c.args.a.now) (key_text c.args.b.now) c.loop-at.at c.in-Some-Some.x c.in-Some-Some.y c.loop-at.invariant (sym c.in-Some-Some.ensures) (sym c.in-Some-Some.ensures') c.if-x-y.true

pub returns-in_default : goal.returns-in_default
returns-in_default c =
    let within : c.loop-at.at < length (key_text c.args.a.now) = omega (arith, c.key_text_len-end.ensures) in
    longer (key_text c.args.a.now) (key_text c.args.b.now) c.loop-at.at c.loop-at.invariant within
    (at_end (key_text c.args.b.now) c.loop-at.at (sym c.key_text_byte-in-loop-at.ensures ∙ c.in_default.is-1))

pub returns-in_default-2 : goal.returns-in_default-2
returns-in_default-2 c =
    let past : length (key_text c.args.a.now) ≤ c.loop-at.at = at_end (key_text c.args.a.now) c.loop-at.at (sym c.key_text_byte.ensures ∙ c.in_default.is-0) in
    absurd (omega (arith, c.key_text_len-end.ensures))

pub loop-at-preserved : goal.loop-at-preserved
loop-at-preserved c =
    next (key_text c.args.a.now) (key_text c.args.b.now) c.loop-at.at c.in-Some-Some.x c.loop-at.invariant (sym c.in-Some-Some.ensures)
    (sym c.in-Some-Some.ensures' ∙ (λ i. Some (sym c.if-x-y.false i)))

pub returns-then-end-key_text_len : goal.returns-then-end-key_text_len
returns-then-end-key_text_len c =
    let past : length (key_text c.args.a.now) ≤ c.loop-at.at = omega (arith, c.key_text_len-end.ensures) in
    let within : c.loop-at.at < length (key_text c.args.b.now) = omega (arith, c.key_text_len.ensures) in
    shorter (key_text c.args.a.now) (key_text c.args.b.now) c.loop-at.at c.loop-at.invariant past within

pub returns-else-end-key_text_len : goal.returns-else-end-key_text_len
returns-else-end-key_text_len c =
    let past : length (key_text c.args.a.now) ≤ c.loop-at.at = omega (arith, c.key_text_len-end.ensures) in
    let past_b : length (key_text c.args.b.now) ≤ c.loop-at.at = omega (arith, c.key_text_len.ensures) in
    ended (key_text c.args.a.now) (key_text c.args.b.now) c.loop-at.at c.loop-at.invariant past past_b
