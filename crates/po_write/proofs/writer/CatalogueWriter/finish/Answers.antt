use Rattle.std.proofs.Common.{rules}
use Rattle.po_write.proofs.writer.CatalogueWriter.finish.Goals as goal

pub returns-then-failed-clause-done : goal.returns-then-failed-clause-done
returns-then-failed-clause-done g c = search rules

pub returns-then-failed-clause-failed : goal.returns-then-failed-clause-failed
returns-then-failed-clause-failed g c = search rules

pub returns-then-failed-clause-part : goal.returns-then-failed-clause-part
returns-then-failed-clause-part g c = search rules
