use Rattle.po_text.proofs.Checked.{entry_told}
use Rattle.po_text.proofs.valid.is_valid_entry.Goals as goal

pub returns : goal.returns
returns c =
    entry_told c.args.entry.now c.hold_all.result c.in_ok-flagged.flagged c.has_comment_lines.result c.is_single.result c.as_slice.result.now c.hold_all.ensures c.is_single.ensures c.as_slice.ensures
    c.hold_entry.ensures c.in_ok-flagged.ensures c.has_comment_lines.ensures
