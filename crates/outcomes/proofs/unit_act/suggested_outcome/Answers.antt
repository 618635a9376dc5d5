use Rattle.std.proofs.Common.{◌≡◌, ◌∙◌, ap, subst, Option}
use Rattle.office_specification.specs.declared.values.ActContext.{ActContext}
use Rattle.office_specification.specs.declared.values.Outcome.{Outcome}
use Rattle.office_specification.specs.UnitAccess.{without_suggestions}
use Rattle.office_specification.specs.UnitOutcomes.{outcome_of}
use Rattle.outcomes.specs.UnitParts.{shown}
use Rattle.outcomes.proofs.ByParts.{WritesLast, suggested_is}
use Rattle.outcomes.proofs.unit_act.suggested_outcome.Goals as goal

pub returns : goal.returns
returns c full same all =
    let a = c.args in
    let asked = a.request.now in
    let decided : c.in_ok-outcome.field-0 ≡ outcome_of (shown a.suggestions (without_suggestions full)) asked.caller asked.number a.act.now =
    c.in_ok-outcome.ensures ∙ ap (λ (f : Option ActContext). outcome_of f asked.caller asked.number a.act.now) (c.with_suggestions-found.ensures ∙ ap (shown a.suggestions) same) in
    suggested_is asked.caller asked.number a.act.now full a.suggestions c.of_suggestion.result c.requires.suggest all
    (c.of_suggestion.ensures.reply ∙ ap (λ (o : Outcome). o.reply) decided)
    (subst (λ (o : Outcome). WritesLast o c.of_suggestion.result) decided c.of_suggestion.ensures.write)
