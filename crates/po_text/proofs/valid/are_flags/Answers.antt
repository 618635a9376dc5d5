use Rattle.po_text.proofs.Checked.{flags_told}
use Rattle.po_text.proofs.valid.are_flags.Goals as goal

pub returns : goal.returns
returns c =
    flags_told c.args.flags.now c.hold_all.result c.in_ok-distinct.distinct c.each_is_flag.result c.lacks_fuzzy_behind.result c.hold_all.ensures c.lacks_fuzzy_behind.ensures c.in_ok-distinct.ensures c.each_is_flag.ensures
