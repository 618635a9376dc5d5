use Rattle.std.proofs.Common.{◌≡◌, not, [], ◌∷◌, ◌++◌, length, map, take, sym, ap, ◌∙◌, arith}
use Rattle.std.proofs.lemmas.List.{length-append}
use Rattle.template_update.specs.Units.{new_unit}
use Rattle.template_update.specs.Updates.{is_known, added}
use Rattle.template_update.proofs.Taken.{next_taken, map-kept, map-left}
use Rattle.template_update.proofs.Updating.{known_by}
use Rattle.template_update.proofs.planning.add_new.Goals.{then-not-contains+in_ok-new_unit+in_ok-push, else-not-contains}
use Rattle.template_update.proofs.planning.add_new.Goals as goal

pub loop-entry-preserved : goal.loop-entry-preserved
loop-entry-preserved c =
    let front = take c.loop-entry.entry-index c.args.next.now in
    let taken = next_taken c.args.next.now c.loop-entry.entry-index c.entry-item.result c.loop-entry-test.true c.entry-item.is in
    elim c.if-not-contains.branch [
      | then-not-contains+in_ok-new_unit+in_ok-push w ↦
          let items : c.if-not-contains.all.items ≡ c.loop-entry.all.items ++ w.in_ok-new_unit.field-0 ∷ [] = ap (λ v. v.items) w.all-is ∙ w.in_ok-push.ensures.items in (
            λ units indexed. items
                ∙ map-kept (λ entry. not (is_known units entry)) (new_unit c.args.rule.now) front c.entry-item.result c.args.all.items c.loop-entry.all.items w.in_ok-new_unit.field-0
                (ap not (known_by units c.args.known.now.found indexed c.key.result c.entry-item.result c.key.ensures ∙ sym c.contains.ensures ∙ w.if-not-contains.true))
                (c.loop-entry.invariant.0 units indexed) w.in_ok-new_unit.ensures
                ∙ ap (λ xs. c.args.all.items ++ map (new_unit c.args.rule.now) (added units xs)) (sym taken),
            omega (arith, c.loop-entry.invariant.1, ap length items, length-append c.loop-entry.all.items (w.in_ok-new_unit.field-0 ∷ [])),
          )
      | else-not-contains w ↦
          let items = ap (λ v. v.items) w.all-is in (
            λ units indexed. items
                ∙ map-left (λ entry. not (is_known units entry)) (new_unit c.args.rule.now) front c.entry-item.result c.args.all.items c.loop-entry.all.items
                (ap not (known_by units c.args.known.now.found indexed c.key.result c.entry-item.result c.key.ensures ∙ sym c.contains.ensures ∙ w.if-not-contains.false))
                (c.loop-entry.invariant.0 units indexed)
                ∙ ap (λ xs. c.args.all.items ++ map (new_unit c.args.rule.now) (added units xs)) (sym taken),
            omega (arith, c.loop-entry.invariant.1, ap length items),
          )
    ]
