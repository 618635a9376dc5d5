use Rattle.std.proofs.Common.{refl, sym, subst}
use Rattle.po_write.specs.Pushed.{HasPushed}
use Rattle.po_write.proofs.Pushes.{pushed_next, broken_next}
use Rattle.po_write.proofs.writer.CatalogueWriter.push.Goals as goal

pub returns-in-Ok-clause-pushed : goal.returns-in-Ok-clause-pushed
returns-in-Ok-clause-pushed g c = λ sink es has.
    pushed_next _ _ sink _ _ es c.args.entry.now (subst (λ w. HasPushed g.W.ByteSink.taken g.W.ByteSink.failed sink w es) (sym c.self.view_is) has) c.in-Ok.ensures refl c.if-self.false

pub returns-in-Err-clause-pushed : goal.returns-in-Err-clause-pushed
returns-in-Err-clause-pushed g c = λ sink es has.
    broken_next _ _ sink _ _ es c.args.entry.now (subst (λ w. HasPushed g.W.ByteSink.taken g.W.ByteSink.failed sink w es) (sym c.self.view_is) has) c.in-Err.ensures refl
