use Rattle.po_read.proofs.OneCatalogue.{one_catalogue}
use Rattle.po_read.proofs.laws.one_catalogue.Goals as goal

pub returns : goal.returns
returns c = one_catalogue
