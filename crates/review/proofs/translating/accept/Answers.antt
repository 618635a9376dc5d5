use Rattle.std.proofs.Common.{◌≡◌, sym, ◌∙◌, refl, ℕ, List}
use Rattle.review.specs.declared.decision.Decision.TheVariants.{Done}
use Rattle.units.specs.declared.unit.UnitAction.TheVariants.{Accept}
use Rattle.review.specs.UnitStep.{plain_values, decision_by_act}
use Rattle.review.proofs.Steps.{if_ok-follows}
use Rattle.review.proofs.Acts.{accept-done, within-from_some}
use Rattle.review.proofs.translating.accept.Goals as goal

pub returns : goal.returns
returns c =
    let a = c.args in
    let suggestion = c.in-Some.suggestion.now in
    let found = sym c.in-Some.ensures in
    let within = within-from_some _ _ _ (sym c.in-Some-after.is ∙ c.in_ok-after.ensures suggestion found refl) in
    if_ok-follows
    (λ d. d ≡ Done (record a.view.now { unit = c.in-Some-after.unit }) (plain_values a.view.now c.in-Some-after.unit))
    (λ d. (caller number : List ℕ) → d ≡ decision_by_act a.policy.now a.rule.now caller number a.view.now (Accept a.named))
    c.done_plainly.result c.done_plainly.ensures
    (λ d e caller number. e
    ∙ (λ i. Done (record a.view.now { unit = within.1 i }) (plain_values a.view.now (within.1 i)))
    ∙ sym (accept-done a.policy.now a.rule.now caller number a.view.now a.named suggestion found within.0))
