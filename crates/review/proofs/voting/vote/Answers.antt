use Rattle.std.proofs.Common.{◌≡◌, ◌∙◌, sym, ℕ, List, []}
use Rattle.std.proofs.lemmas.Int.{to_z-of_z}
use Rattle.std.specs.Int.{w64}
use Rattle.units.specs.declared.unit.UnitAction.TheVariants.{Vote}
use Rattle.review.specs.UnitStep.{decision_by_act}
use Rattle.review.proofs.Steps.{if_ok-follows}
use Rattle.review.proofs.Acts.{Accepts, vote-accepted}
use Rattle.review.proofs.voting.vote.Goals as goal

pub returns-then-is_due : goal.returns-then-is_due
returns-then-is_due c =
    let a = c.args in
    let suggestion = c.in-Some.suggestion.now in
    let found = sym c.in-Some.ensures in
    let summed = to_z-of_z w64 c.sum_of-votes.result (record { sfits = c.sum_of-votes.type_inv }) ∙ c.sum_of-votes.ensures in
    let room = sym c.is_full_of_votes.ensures ∙ c.if-is_full_of_votes.false in
    let other = sym c.is_same_vote.ensures ∙ c.if-is_same_vote.false in
    let due = sym c.is_due.ensures ∙ c.if-is_due.true in
    if_ok-follows
    (Accepts a.policy.now a.rule.now a.caller.now [] a.view.now a.named suggestion found a.value c.in_ok-voted.voted _)
    (λ d. (number : List ℕ) → d ≡ decision_by_act a.policy.now a.rule.now a.caller.now number a.view.now (Vote a.named a.value))
    c.accepted-decision.result c.accepted-decision.ensures
    (λ d accepts number. vote-accepted a.policy.now a.rule.now a.caller.now number a.view.now a.named suggestion found a.value c.in_ok-voted.voted _ c.in_ok-voted.ensures summed c.if-not-policy.false room other due d accepts)
