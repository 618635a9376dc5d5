use Rattle.std.proofs.Common.{refl}
use Rattle.po_write.proofs.Pushes.{pushed_nothing}
use Rattle.po_write.proofs.writer.CatalogueWriter.new.Goals as goal

pub returns-clause-pushed : goal.returns-clause-pushed
returns-clause-pushed g c = pushed_nothing _ _ c.args.sink _ refl
