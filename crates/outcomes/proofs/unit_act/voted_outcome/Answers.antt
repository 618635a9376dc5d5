use Rattle.std.proofs.Common.{◌≡◌, ◌∙◌, ap, List, Option}
use Rattle.units.specs.declared.unit.Suggestion.{Suggestion}
use Rattle.office_specification.specs.declared.values.ActContext.{ActContext}
use Rattle.office_specification.specs.UnitAccess.{without_suggestions}
use Rattle.office_specification.specs.UnitOutcomes.{outcome_of}
use Rattle.review.specs.Parts.{at_most_one}
use Rattle.outcomes.specs.UnitParts.{shown, of_vote}
use Rattle.outcomes.proofs.ByParts.{voted_told}
use Rattle.outcomes.proofs.unit_act.voted_outcome.Goals as goal

pub returns-in_ok-of_vote-in-Vote-clause-decided : goal.returns-in_ok-of_vote-in-Vote-clause-decided
returns-in_ok-of_vote-in-Vote-clause-decided c full named names same there =
    let a = c.args in
    let asked = a.request.now in
    (voted_told asked.caller asked.number a.act.now c.in-Vote.named named c.in-Vote.value c.in-Vote.is names full a.suggestion there c.in_ok-of_vote-in-Vote.field-0
    (c.in_ok-of_vote-in-Vote.ensures
    ∙ ap (of_vote c.in-Vote.named asked.caller c.in-Vote.value) (c.in_ok-outcome.ensures
    ∙ ap (λ (f : Option ActContext). outcome_of f asked.caller asked.number a.act.now) (c.with_suggestions-found.ensures
    ∙ (λ i. shown (c.in_ok-suggestions.ensures i) (same i)))))).0

pub returns-in_ok-of_vote-in-Vote-clause-accepts : goal.returns-in_ok-of_vote-in-Vote-clause-accepts
returns-in_ok-of_vote-in-Vote-clause-accepts c full named names same there =
    let a = c.args in
    let asked = a.request.now in
    (voted_told asked.caller asked.number a.act.now c.in-Vote.named named c.in-Vote.value c.in-Vote.is names full a.suggestion there c.in_ok-of_vote-in-Vote.field-0
    (c.in_ok-of_vote-in-Vote.ensures
    ∙ ap (of_vote c.in-Vote.named asked.caller c.in-Vote.value) (c.in_ok-outcome.ensures
    ∙ ap (λ (f : Option ActContext). outcome_of f asked.caller asked.number a.act.now) (c.with_suggestions-found.ensures
    ∙ (λ i. shown (c.in_ok-suggestions.ensures i) (same i)))))).1
