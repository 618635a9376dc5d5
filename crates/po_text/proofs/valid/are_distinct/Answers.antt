use Rattle.std.proofs.Common.{sym, ◌∙◌}
use Rattle.po_text.specs.Flags.{has_text}
use Rattle.po_text.proofs.Checked.{kept_next, distinct_next, twice, all_distinct}
use Rattle.po_text.proofs.valid.are_distinct.Goals as goal

pub loop-flag-preserved : goal.loop-flag-preserved
loop-flag-preserved c =
    let new = sym c.has.ensures ∙ c.if-has.false in
    record {
      kept =
          kept_next c.args.flags.now c.loop-flag.flag-index c.flag-item.result c.as_str-text.result.now c.loop-flag.before c.in_ok-before.before c.loop-flag-test.true c.flag-item.is c.as_str-text.ensures
          c.loop-flag.invariant.kept new c.in_ok-before.ensures;
      distinct =
          distinct_next c.args.flags.now c.loop-flag.flag-index c.flag-item.result c.loop-flag-test.true c.flag-item.is c.loop-flag.invariant.distinct
          ((λ i. has_text (sym c.as_str-text.ensures i) (sym c.loop-flag.invariant.kept i)) ∙ new);
    }

pub returns-then-has : goal.returns-then-has
returns-then-has c =
    twice c.args.flags.now c.loop-flag.flag-index c.flag-item.result c.loop-flag-test.true c.flag-item.is
    ((λ i. has_text (sym c.as_str-text.ensures i) (sym c.loop-flag.invariant.kept i)) ∙ sym c.has.ensures ∙ c.if-has.true)

pub returns : goal.returns
returns c = all_distinct c.args.flags.now c.loop-flag.flag-index c.loop-flag-test.false c.loop-flag.invariant.distinct
