use Rattle.po_read.specs.Spells.{limits}
use Rattle.po_read.proofs.Least.{least, computed}
use Rattle.po_read.proofs.laws.least_fault.Goals as goal

pub returns : goal.returns
returns c = λ bytes fault. (least limits bytes fault, computed limits bytes fault)
