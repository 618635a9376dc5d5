use Rattle.po_write.proofs.Spelled.{spelled, no_other}
use Rattle.po_write.proofs.laws.one_spelled.Goals as goal

pub returns-clause-spelled : goal.returns-clause-spelled
returns-clause-spelled c = spelled

pub returns-clause-only : goal.returns-clause-only
returns-clause-only c = no_other
