use Rattle.std.proofs.Common.{sym, ◌∙◌, ap, Some, subst}
use Rattle.std.specs.FinMap as map
use Rattle.units.specs.Ballots.{IsPlaceOf, IsNewPlaceOf}
use Rattle.units.proofs.Placing.{find-place, find-new_place, get-view}
use Rattle.units.proofs.votes.Votes.get.Goals as goal

pub returns-in-Ok : goal.returns-in-Ok
returns-in-Ok c =
    let same = ap (λ m. map.get m c.args.voter.now) (sym c.self.view_is) ∙ get-view _ c.args.voter.now c.self.invariant.0 in
    let place = subst (λ votes. IsPlaceOf c.args.voter.now votes c.in-Ok.i) c.as_slice.ensures.value c.in-Ok.ensures in
    ap (λ vote. Some vote.1) c.index.ensures ∙ sym (find-place c.args.voter.now _ c.in-Ok.i _ place) ∙ sym same

pub returns-in-Err : goal.returns-in-Err
returns-in-Err c =
    let same = ap (λ m. map.get m c.args.voter.now) (sym c.self.view_is) ∙ get-view _ c.args.voter.now c.self.invariant.0 in
    let place = subst (λ votes. IsNewPlaceOf c.args.voter.now votes c.in-Err.field-0) c.as_slice.ensures.value c.in-Err.ensures in
    sym (find-new_place c.args.voter.now _ c.in-Err.field-0 c.self.invariant.0 place) ∙ sym same
