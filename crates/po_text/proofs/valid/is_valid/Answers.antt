use Rattle.po_text.proofs.Checked.{catalogue_told}
use Rattle.po_text.proofs.valid.is_valid.Goals as goal

pub returns : goal.returns
returns c =
    catalogue_told c.args.entries.now c.hold_all.result c.in_ok-unique.unique c.in_ok-each.each c.has_header_first.result c.hold_all.ensures c.has_header_first.ensures c.in_ok-unique.ensures c.in_ok-each.ensures
