use Rattle.std.proofs.Common.{sym, ◌∙◌, ap, subst, arith, length, ◌≡◌, ◌-ℤ◌, to_z, of_z, w64}
use Rattle.std.proofs.lemmas.Int.{ints}
use Rattle.std.specs.FinMap as map
use Rattle.po_text.specs.Texts.{text_cmp}
use Rattle.units.specs.Ballots.{IsPlaceOf, IsNewPlaceOf, vote_sum}
use Rattle.units.proofs.Placing.{remove-view, remove-absent, get-view, find-new_place, sorted_by_entries, view_by_entries}
use Rattle.units.proofs.Sums.{sum-taken, sum-bounds, weight-bounds}
use Rattle.units.proofs.votes.Votes.remove.Goals as goal

pub overflow_sub-self : goal.overflow_sub-self
overflow_sub-self c =
    let bounds = sum-bounds c.self.inside.inner.items c.self.invariant.0 in
    omega (arith, ints, bounds.0, bounds.1, c.self.invariant.1, c.weight.ensures, weight-bounds c.remove-value.result.1, c.as_slice.type_inv.1, ap length c.as_slice.ensures.value)

pub invariant_of-self : goal.invariant_of-self
invariant_of-self c =
    let votes = c.self.inside.inner.items in
    let place = subst (λ votes. IsPlaceOf c.args.voter.now votes c.in-Ok.i) c.as_slice.ensures.value c.in-Ok.ensures in
    let items = remove-view votes c.args.voter.now c.in-Ok.i c.self.invariant.0 place ∙ sym c.remove-value.ensures.items in
    let sorted = sorted_by_entries _ _ items in
    let taken = sum-taken votes _ c.in-Ok.i c.remove-value.result _ c.self.invariant.0 sorted place.within c.remove-value.ensures.value c.remove-value.ensures.items in
    let bounds = sum-bounds votes c.self.invariant.0 in
    let total : to_z w64 (of_z w64 (to_z w64 (of_z w64 c.self.inside.kept_sum) -ℤ to_z w64 (of_z w64 c.weight.result))) ≡ vote_sum (map.from_sorted {R = text_cmp} c.remove-value.new.self.items) =
    omega (arith, ints, taken, bounds.0, bounds.1, c.self.invariant.1, c.weight.ensures, weight-bounds c.remove-value.result.1, c.as_slice.type_inv.1, ap length c.as_slice.ensures.value) in
    (sorted, total)

pub returns-in-Ok : goal.returns-in-Ok
returns-in-Ok c =
    let votes = c.self.inside.inner.items in
    let place = subst (λ votes. IsPlaceOf c.args.voter.now votes c.in-Ok.i) c.as_slice.ensures.value c.in-Ok.ensures in
    let items = remove-view votes c.args.voter.now c.in-Ok.i c.self.invariant.0 place ∙ sym c.remove-value.ensures.items in
    view_by_entries _ _ items ∙ ap (λ m. map.remove m c.args.voter.now) c.self.view_is

pub returns-in_default : goal.returns-in_default
returns-in_default c =
    let place = subst (λ votes. IsNewPlaceOf c.args.voter.now votes c.in_default.field-0) c.as_slice.ensures.value c.in_default.ensures in
    let none = get-view _ c.args.voter.now c.self.invariant.0 ∙ find-new_place c.args.voter.now _ c.in_default.field-0 c.self.invariant.0 place in
    remove-absent c.args.self.now c.args.voter.now (ap (λ m. map.get m c.args.voter.now) (sym c.self.view_is) ∙ none)
