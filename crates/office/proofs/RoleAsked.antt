-- Whom the role refuses is refused by the step.
use Rattle.std.proofs.Common.{◌≡◌, true, false, sym, ◌∙◌, ap, subst}
use Rattle.units.specs.Office.{Office}
use Rattle.units.specs.Project.{role_in}
use Rattle.units.specs.Units.{is_below}
use Rattle.units.specs.declared.unit.Role.{Role}
use Rattle.units.specs.declared.unit.Role.TheVariants.{Manager}
use Rattle.units.specs.declared.unit.Refusal.TheVariants.{BelowRole}
use Rattle.request_book.specs.Clash.{is_unit_act}
use Rattle.request_book.specs.declared.act.Request.{Request}
use Rattle.replies.specs.Bodies.{refused}
use Rattle.office_specification.specs.Step.{step}
use Rattle.outcomes.specs.declared.outcome.OfficeOutcome.{OfficeOutcome}
use Rattle.outcomes.specs.Settled.{IsSettled, without_change}
use Rattle.outcomes.proofs.Settling.{refused_request}

pub refused_by_role : (office : Office) (request : Request) (outcome : OfficeOutcome) (role : Role) → is_unit_act request.act ≡ false → role ≡ role_in office.team request.caller
    → is_below role Manager ≡ true → outcome ≡ without_change (refused BelowRole) → IsSettled office outcome (step office request)
refused_by_role office request outcome role own is below made =
    let settled : IsSettled office (without_change (refused BelowRole)) (step office request) =
    record { is = refused_request office request own (ap (λ r. is_below r Manager) (sym is) ∙ below); possible = tt } in
    subst (λ (o : OfficeOutcome). IsSettled office o (step office request)) (sym made) settled
