use Rattle.std.proofs.Common.{rules}
use Rattle.po_text.proofs.catalogue.Catalogue.try_new.Goals as goal

pub returns-else-branch : goal.returns-else-branch
returns-else-branch c = search rules
