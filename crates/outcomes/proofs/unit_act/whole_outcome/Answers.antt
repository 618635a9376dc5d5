use Rattle.std.proofs.Common.{sym, ◌∙◌, ap, subst}
use Rattle.office_specification.specs.declared.values.UnitOutcome.{UnitOutcome}
use Rattle.office_specification.specs.UnitOutcomes.{outcome_of, context_view, IsOutcomeBy}
use Rattle.outcomes.specs.UnitParts.{of_whole}
use Rattle.outcomes.proofs.ByParts.{whole_is}
use Rattle.outcomes.proofs.unit_act.whole_outcome.Goals as goal

pub returns : goal.returns
returns c =
    let a = c.args in
    let asked = a.request.now in
    subst (λ (written : UnitOutcome). IsOutcomeBy (context_view a.found) (outcome_of a.found asked.caller asked.number a.act.now) written)
    (sym (c.of_whole.ensures ∙ ap of_whole c.in_ok-outcome.ensures)) (whole_is asked.caller asked.number a.act.now a.found)
