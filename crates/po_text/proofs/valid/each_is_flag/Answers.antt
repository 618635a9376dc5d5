use Rattle.po_text.specs.Valid.{IsFlag}
use Rattle.po_text.proofs.Checked.{all_next, refused, accepted}
use Rattle.po_text.proofs.valid.each_is_flag.Goals as goal

pub loop-flag-preserved : goal.loop-flag-preserved
loop-flag-preserved c = all_next IsFlag c.args.flags.now c.loop-flag.flag-index c.flag-item.result c.loop-flag-test.true c.flag-item.is c.loop-flag.invariant (c.is_flag.ensures.0 c.if-not-is_flag.false)

pub returns-then-not-is_flag : goal.returns-then-not-is_flag
returns-then-not-is_flag c = refused IsFlag c.args.flags.now c.loop-flag.flag-index c.flag-item.result c.is_flag.result c.loop-flag-test.true c.flag-item.is c.is_flag.ensures c.if-not-is_flag.true

pub returns : goal.returns
returns c = accepted IsFlag c.args.flags.now c.loop-flag.flag-index c.loop-flag-test.false c.loop-flag.invariant
