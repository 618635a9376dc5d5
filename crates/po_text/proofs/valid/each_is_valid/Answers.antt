use Rattle.po_text.specs.Valid.{IsValidEntry}
use Rattle.po_text.proofs.Checked.{all_next, refused, accepted}
use Rattle.po_text.proofs.valid.each_is_valid.Goals as goal

pub loop-entry-preserved : goal.loop-entry-preserved
loop-entry-preserved c =
    all_next IsValidEntry c.args.entries.now c.loop-entry.entry-index c.entry-item.result c.loop-entry-test.true c.entry-item.is c.loop-entry.invariant (c.in_ok-is_valid_entry.ensures.0 c.if-not-branch.false)

pub returns-then-not-branch : goal.returns-then-not-branch
returns-then-not-branch c =
    refused IsValidEntry c.args.entries.now c.loop-entry.entry-index c.entry-item.result c.in_ok-is_valid_entry.field-0 c.loop-entry-test.true c.entry-item.is c.in_ok-is_valid_entry.ensures c.if-not-branch.true

pub returns : goal.returns
returns c = accepted IsValidEntry c.args.entries.now c.loop-entry.entry-index c.loop-entry-test.false c.loop-entry.invariant
