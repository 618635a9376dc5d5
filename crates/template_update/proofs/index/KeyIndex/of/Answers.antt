use Rattle.std.proofs.Common.{[], ◌∷◌, ◌++◌, take, refl, sym, subst, ◌∙◌}
use Rattle.template_update.specs.KeyIndexes.{IsIndexOf}
use Rattle.template_update.proofs.Found.{found_stays, found_more}
use Rattle.template_update.proofs.Taken.{next_taken}
use Rattle.template_update.proofs.index.KeyIndex.of.Goals.{then-not-contains_key+in_ok-insert, else-not-contains_key}
use Rattle.template_update.proofs.index.KeyIndex.of.Goals as goal

pub loop-item-preserved : goal.loop-item-preserved
loop-item-preserved g c =
    let key_of = g.T.Keyed.key_of in
    let front = take c.loop-item.item-index c.args.items.now in
    let more = front ++ c.item-item.result ∷ [] in
    subst (λ xs. IsIndexOf key_of xs c.if-not-contains_key.found) (sym (next_taken c.args.items.now c.loop-item.item-index c.item-item.result c.loop-item-test.true c.item-item.is))
    (elim c.if-not-contains_key.branch [
      | then-not-contains_key+in_ok-insert w ↦
          subst (λ found. IsIndexOf key_of more found) (sym w.found-is)
          (found_more key_of front c.item-item.result c.loop-item.found w.insert.new.self c.key-key.result _ c.key-key.ensures refl c.loop-item.invariant
          (sym c.contains_key.ensures ∙ w.if-not-contains_key.true) (λ q. w.in_ok-insert.ensures.updates.0 q))
      | else-not-contains_key w ↦
          subst (λ found. IsIndexOf key_of more found) (sym w.found-is)
          (found_stays key_of front c.item-item.result c.loop-item.found c.key-key.result c.key-key.ensures c.loop-item.invariant
          (sym c.contains_key.ensures ∙ w.if-not-contains_key.false))
    ])
