use Rattle.std.proofs.Common.{◌≡◌, sym, ap, subst, take, ◌+◌, ◌∷◌, [], ◌++◌, ◌∙◌, arith}
use Rattle.std.proofs.lemmas.List.{take_more, length-take-le}
use Rattle.po_text.specs.declared.entry.Entry.{Entry}
use Rattle.office_maps.specs.TemplateIndex.{IsIndexOf}
use Rattle.office_maps.proofs.Places.{same_places, one_more_place}
use Rattle.office_maps.proofs.template.places_of.Goals as goal
use Rattle.office_maps.proofs.template.places_of.Goals.{then-not-contains_key+in_ok-insert, else-not-contains_key}

pub loop-at-preserved : goal.loop-at-preserved
loop-at-preserved c =
    let one_more : take (c.loop-at.at + 1) c.args.entries.now ≡ take c.loop-at.at c.args.entries.now ++ c.index-entries-at.result ∷ [] =
    take_more c.args.entries.now c.loop-at.at c.index-entries-at.result c.loop-at-test.true
    ∙ ap (λ (e : Entry). take c.loop-at.at c.args.entries.now ++ e ∷ []) (sym c.index-entries-at.is) in
    subst (λ entries. IsIndexOf entries c.if-not-contains_key.places) (sym one_more) (elim c.if-not-contains_key.branch [
      | then-not-contains_key+in_ok-insert w ↦
          subst (λ places. IsIndexOf (take c.loop-at.at c.args.entries.now ++ c.index-entries-at.result ∷ []) places) (sym w.places-is)
          (one_more_place (take c.loop-at.at c.args.entries.now) c.loop-at.places w.insert.new.self c.index-entries-at.result c.in_ok-key.key c.in_ok-key.ensures c.loop-at.invariant
          (sym c.contains_key.ensures ∙ w.if-not-contains_key.true) c.loop-at.at (sym (length-take-le c.loop-at.at c.args.entries.now (omega arith))) (λ q. w.in_ok-insert.ensures.updates.0 q))
      | else-not-contains_key w ↦
          subst (λ places. IsIndexOf (take c.loop-at.at c.args.entries.now ++ c.index-entries-at.result ∷ []) places) (sym w.places-is)
          (same_places (take c.loop-at.at c.args.entries.now) c.loop-at.places c.index-entries-at.result c.in_ok-key.key c.in_ok-key.ensures c.loop-at.invariant
          (sym c.contains_key.ensures ∙ w.if-not-contains_key.false))
    ])
