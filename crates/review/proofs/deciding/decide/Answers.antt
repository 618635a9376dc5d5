use Rattle.std.proofs.Common.{◌≡◌, ◌∙◌, sym}
use Rattle.review.specs.UnitStep.{decision_by_act, unit_step}
use Rattle.review.proofs.Steps.{unit_step-early, unit_step-late, if_ok-follows}
use Rattle.review.proofs.deciding.decide.Goals as goal

pub returns-in-Some : goal.returns-in-Some
returns-in-Some c =
    let a = c.args in
    sym (unit_step-early a.policy.now a.rule.now a.request.role a.request.caller.now a.request.number a.view.now a.request.act.now c.in-Some.refusal (sym c.in-Some.ensures.first))

pub returns-in-None : goal.returns-in-None
returns-in-None c =
    let a = c.args in
    let rest = unit_step-late a.policy.now a.rule.now a.request.role a.request.caller.now a.request.number a.view.now a.request.act.now (sym c.in-None.ensures.first) in
    if_ok-follows
    (λ d. d ≡ decision_by_act a.policy.now a.rule.now a.request.caller.now a.request.number a.view.now a.request.act.now.action)
    (λ d. d ≡ unit_step a.policy.now a.rule.now a.request.role a.request.caller.now a.request.number a.view.now a.request.act.now)
    c.decide_by_act.result c.decide_by_act.ensures (λ d e. e ∙ rest)
