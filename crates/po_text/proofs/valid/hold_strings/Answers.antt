use Rattle.po_text.specs.Valid.{IsString}
use Rattle.po_text.proofs.Checked.{all_next, all_whole}
use Rattle.po_text.proofs.valid.hold_strings.Goals as goal

pub loop-string-preserved : goal.loop-string-preserved
loop-string-preserved c = all_next IsString c.args.strings.now c.loop-string.string-index c.string-item.result c.loop-string-test.true c.string-item.is c.loop-string.invariant c.hold_string.ensures

pub returns : goal.returns
returns c = all_whole IsString c.args.strings.now c.loop-string.string-index c.loop-string-test.false c.loop-string.invariant
