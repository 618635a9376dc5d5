use Rattle.po_text.proofs.Checked.{flag_told}
use Rattle.po_text.proofs.valid.is_flag.Goals as goal

pub returns : goal.returns
returns c = flag_told c.as_str.result.now c.args.flag.now c.is_flag_text.result c.as_str.utf8 c.as_str.ensures c.is_flag_text.ensures
