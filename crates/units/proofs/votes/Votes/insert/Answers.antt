use Rattle.std.proofs.Common.{sym, ◌∙◌, ap, subst, arith, length, refl, ◌≡◌, ◌+ℤ◌, ◌-ℤ◌, to_z, of_z, w64, slice_set}
use Rattle.po_text.specs.Texts.{text_cmp}
use Rattle.std.proofs.lemmas.Int.{ints}
use Rattle.std.specs.FinMap as map
use Rattle.units.specs.Ballots.{IsPlaceOf, IsNewPlaceOf, vote_sum}
use Rattle.units.proofs.Placing.{put-place, put-new_place, insert-view, sorted_by_entries, view_by_entries}
use Rattle.units.proofs.Sums.{sum-put, sum-replaced, sum-bounds, weight-bounds}
use Rattle.units.proofs.votes.Votes.insert.Goals as goal

pub overflow_add-self : goal.overflow_add-self
overflow_add-self c =
    let bounds = sum-bounds c.self.inside.inner.items c.self.invariant.0 in
    omega (arith, ints, bounds.0, bounds.1, c.self.invariant.1, c.weight.ensures, c.weight-in-Ok.ensures, weight-bounds c.args.value, weight-bounds c.index.result.now.1, c.as_slice.type_inv.1, ap length c.as_slice.ensures.value)

pub invariant_of-self : goal.invariant_of-self
invariant_of-self c =
    let votes = c.self.inside.inner.items in
    let place = subst (λ votes. IsPlaceOf c.args.voter votes c.in-Ok.i) c.as_slice.ensures.value c.in-Ok.ensures in
    let items = insert-view votes c.args.voter c.args.value c.self.invariant.0 ∙ put-place c.args.voter c.args.value votes c.in-Ok.i place in
    let sorted = sorted_by_entries _ _ items in
    let moved = sum-replaced votes _ c.in-Ok.i (c.args.voter, c.args.value) c.index.result.now _ c.self.invariant.0 sorted place.within c.index.ensures refl in
    let bounds = sum-bounds votes c.self.invariant.0 in
    let total : to_z w64 (of_z w64 (to_z w64 (of_z w64 c.self.inside.kept_sum) +ℤ to_z w64 (of_z w64 (to_z w64 (of_z w64 c.weight.result) -ℤ to_z w64 (of_z w64 c.weight-in-Ok.result)))))
    ≡ vote_sum (map.from_sorted {R = text_cmp} (slice_set votes c.in-Ok.i (c.args.voter, c.args.value))) =
    omega (arith, ints, moved, bounds.0, bounds.1, c.self.invariant.1, c.weight.ensures, c.weight-in-Ok.ensures, weight-bounds c.args.value, weight-bounds c.index.result.now.1, c.as_slice.type_inv.1, ap length c.as_slice.ensures.value) in
    (sorted, total)

pub overflow_add-self-in-Err : goal.overflow_add-self-in-Err
overflow_add-self-in-Err c =
    let bounds = sum-bounds c.self.inside.inner.items c.self.invariant.0 in
    omega (arith, ints, bounds.0, bounds.1, c.self.invariant.1, c.weight-in-Err.ensures, weight-bounds c.args.value, c.as_slice.type_inv.1, ap length c.as_slice.ensures.value)

pub invariant_of-self-in-Err : goal.invariant_of-self-in-Err
invariant_of-self-in-Err c =
    let votes = c.self.inside.inner.items in
    let place = subst (λ votes. IsNewPlaceOf c.args.voter votes c.in-Err.i) c.as_slice.ensures.value c.in-Err.ensures in
    let items = insert-view votes c.args.voter c.args.value c.self.invariant.0 ∙ put-new_place c.args.voter c.args.value votes c.in-Err.i place ∙ sym c.in_ok-insert-in-Err.ensures.items in
    let sorted = sorted_by_entries _ _ items in
    let moved = sum-put votes _ c.in-Err.i (c.args.voter, c.args.value) c.self.invariant.0 sorted c.in_ok-insert-in-Err.ensures.items in
    let bounds = sum-bounds votes c.self.invariant.0 in
    (sorted, omega (arith, ints, moved, bounds.0, bounds.1, c.self.invariant.1, c.weight-in-Err.ensures, weight-bounds c.args.value, c.as_slice.type_inv.1, ap length c.as_slice.ensures.value))

pub returns-in-Ok-clause-ok : goal.returns-in-Ok-clause-ok
returns-in-Ok-clause-ok c =
    let votes = c.self.inside.inner.items in
    let place = subst (λ votes. IsPlaceOf c.args.voter votes c.in-Ok.i) c.as_slice.ensures.value c.in-Ok.ensures in
    let items = insert-view votes c.args.voter c.args.value c.self.invariant.0 ∙ put-place c.args.voter c.args.value votes c.in-Ok.i place in
    view_by_entries _ _ items ∙ ap (λ m. map.insert m c.args.voter c.args.value) c.self.view_is

pub returns-in_ok-insert-in-Err-clause-ok : goal.returns-in_ok-insert-in-Err-clause-ok
returns-in_ok-insert-in-Err-clause-ok c =
    let votes = c.self.inside.inner.items in
    let place = subst (λ votes. IsNewPlaceOf c.args.voter votes c.in-Err.i) c.as_slice.ensures.value c.in-Err.ensures in
    let items = insert-view votes c.args.voter c.args.value c.self.invariant.0 ∙ put-new_place c.args.voter c.args.value votes c.in-Err.i place ∙ sym c.in_ok-insert-in-Err.ensures.items in
    view_by_entries _ _ items ∙ ap (λ m. map.insert m c.args.voter c.args.value) c.self.view_is
