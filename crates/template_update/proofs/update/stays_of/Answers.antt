use Rattle.std.proofs.Common.{[], ◌∷◌, ◌++◌, take, get_or, map, sym, ap, ◌∙◌}
use Rattle.std.proofs.lemmas.List.{take_more, map-append}
use Rattle.template_update.specs.declared.update.UnitUpdate.TheVariants.{Changed}
use Rattle.template_update.specs.Updates.{stays_by}
use Rattle.template_update.proofs.update.stays_of.Goals as goal

pub loop-update-preserved : goal.loop-update-preserved
loop-update-preserved c =
    let before = take c.loop-update.update-index c.args.updates.now in
    let this = get_or c.args.updates.now c.loop-update.update-index Changed in
    c.in_ok-push.ensures.ok ∙ (λ i. c.loop-update.invariant i ++ c.stays_by.ensures i ∷ [])
    ∙ sym (ap (map stays_by) (take_more c.args.updates.now c.loop-update.update-index Changed c.loop-update-test.true) ∙ map-append stays_by before (this ∷ []))
