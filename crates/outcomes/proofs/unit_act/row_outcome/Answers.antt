use Rattle.std.proofs.Common.{◌≡◌, sym, ◌∙◌, ap, subst, false, Option}
use Rattle.office_specification.specs.declared.values.ActContext.{ActContext}
use Rattle.office_specification.specs.declared.values.UnitOutcome.{UnitOutcome}
use Rattle.office_specification.specs.UnitAccess.{without_suggestions}
use Rattle.office_specification.specs.UnitOutcomes.{outcome_of, context_view, needs_suggestions, IsOutcomeBy}
use Rattle.outcomes.specs.UnitParts.{of_row}
use Rattle.outcomes.proofs.ByParts.{row_is}
use Rattle.outcomes.proofs.unit_act.row_outcome.Goals as goal

pub returns-clause-decided : goal.returns-clause-decided
returns-clause-decided c full same =
    let a = c.args in
    let asked = a.request.now in
    let none : needs_suggestions (without_suggestions full) a.act.now ≡ false =
    ap (λ (f : Option ActContext). needs_suggestions f a.act.now) (sym same) ∙ sym c.needs_suggestions.ensures ∙ c.if-needs_suggestions.false in
    subst (λ (written : UnitOutcome). IsOutcomeBy (context_view full) (outcome_of full asked.caller asked.number a.act.now) written)
    (sym (c.of_row.ensures ∙ ap of_row (c.in_ok-outcome.ensures ∙ ap (λ (f : Option ActContext). outcome_of f asked.caller asked.number a.act.now) same)))
    (row_is asked.caller asked.number a.act.now full none)
