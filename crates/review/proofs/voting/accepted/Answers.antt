use Rattle.std.proofs.Common.{◌≡◌, sym, ◌∙◌, ap, cond, true, Bool, Some}
use Rattle.std.proofs.lemmas.Int.{to_z-of_z}
use Rattle.std.specs.Int.{w64}
use Rattle.std.specs.Prelude.{nat_lt}
use Rattle.units.specs.declared.unit.Suggestion.{Suggestion}
use Rattle.units.specs.declared.unit.Unit.{Unit}
use Rattle.units.specs.Limits.{revision_limit}
use Rattle.units.specs.declared.unit.Refusal.TheVariants.{PastLimit}
use Rattle.units.specs.Units.{suggestion_of, shown_state}
use Rattle.review.specs.declared.decision.Decision.{Decision}
use Rattle.review.specs.declared.decision.Decision.TheVariants.{Done, Refused}
use Rattle.review.specs.declared.decision.Values.TheVariants.{Voted}
use Rattle.review.specs.UnitStep.{with_accepted}
use Rattle.review.proofs.Steps.{if_ok-follows}
use Rattle.review.proofs.Acts.{within-from_some}
use Rattle.review.proofs.voting.accepted.Goals as goal

pub returns : goal.returns
returns c =
    let a = c.args in
    if_ok-follows
    (λ d. d ≡ Done (record a.voted.now { unit = c.in-Some.unit }) _)
    (λ d. (s : Suggestion) → suggestion_of a.named a.voted.now.unit ≡ Some s → s.forms ≡ a.forms.now →
    let after = with_accepted a.policy.now a.rule.now a.voted.now a.named in
    d ≡ cond (nat_lt revision_limit after.revision) (Refused PastLimit) (Done (record a.voted.now { unit = after }) (Voted true after.revision (shown_state a.voted.now.source after) a.votes)))
    c.done.result c.done.ensures
    (λ d e s found same.
    let within = within-from_some _ _ _ (sym c.in-Some.is ∙ c.in_ok-after.ensures s found same) in
    e
    ∙ (λ i. Done (record a.voted.now { unit = c.in-Some.unit }) (Voted true c.in-Some.unit.revision (c.shown_state.ensures i) (to_z-of_z w64 a.votes c.ranges.votes i)))
    ∙ ap (λ (u : Unit). Done (record a.voted.now { unit = u }) (Voted true u.revision (shown_state a.voted.now.source u) a.votes)) within.1
    ∙ sym (ap (λ (b : Bool).
    let after = with_accepted a.policy.now a.rule.now a.voted.now a.named in
    let done : Decision = Done (record a.voted.now { unit = after }) (Voted true after.revision (shown_state a.voted.now.source after) a.votes) in
    cond b (Refused PastLimit) done) within.0))
