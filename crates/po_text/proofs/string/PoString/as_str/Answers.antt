use Rattle.std.proofs.Common.{rules}
use Rattle.po_text.proofs.string.PoString.as_str.Goals as goal

pub returns-clause-value : goal.returns-clause-value
returns-clause-value c = search rules

pub returns-clause-fits : goal.returns-clause-fits
returns-clause-fits c = search rules
