use Rattle.po_write.proofs.Spelled.{spelled, no_other}
use Rattle.po_write.proofs.catalogue.write_catalogue.Goals as goal

pub returns-in-Ok-clause-spelled : goal.returns-in-Ok-clause-spelled
returns-in-Ok-clause-spelled g c = spelled c.args.catalogue.now c.entries.ensures.valid

pub returns-in-Ok-clause-only : goal.returns-in-Ok-clause-only
returns-in-Ok-clause-only g c = λ other s. no_other c.args.catalogue.now other c.entries.ensures.valid s

pub returns-in-Err-clause-spelled : goal.returns-in-Err-clause-spelled
returns-in-Err-clause-spelled g c = spelled c.args.catalogue.now c.entries.ensures.valid

pub returns-in-Err-clause-only : goal.returns-in-Err-clause-only
returns-in-Err-clause-only g c = λ other s. no_other c.args.catalogue.now other c.entries.ensures.valid s
