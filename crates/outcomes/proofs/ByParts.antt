-- What an act comes to by what it touches of its unit is what it comes to by the whole.
use Rattle.std.proofs.Common.{◌≡◌, inl, inr, List, [], ◌∷◌, ◌++◌, map, Bool, true, false, not, ◌&&◌, Option, Some, None, IfSome, MatchOption, subst, ap, refl, sym, ◌∙◌}
use Rattle.std.specs.Prelude.{ℤ, ℕ, is_none, option_map, option_and_then, slice_get}
use Rattle.std.specs.Option.{option_map_or}
use Rattle.po_text.specs.Texts.{Text}
use Rattle.units.specs.declared.unit.Suggestion.{Suggestion}
use Rattle.units.specs.declared.unit.UnitView.{UnitView}
use Rattle.units.specs.declared.unit.UnitAct.{UnitAct}
use Rattle.units.specs.declared.unit.UnitAction.{UnitAction}
use Rattle.units.specs.declared.unit.UnitAction.TheVariants.{Suggest, Vote, Accept, Dismiss, Translate, Comment, Approve, SendBack}
use Rattle.units.specs.declared.unit.Refusal.{Refusal}
use Rattle.units.specs.declared.unit.Refusal.TheVariants.{NoLanguage, NoUnit}
use Rattle.units.specs.declared.votes.VoteValue.{VoteValue}
use Rattle.units.specs.Units.{suggestion_of, vote_sum}
use Rattle.review.specs.declared.decision.Decision.{Decision}
use Rattle.review.specs.declared.decision.Decision.TheVariants.{Done, Refused}
use Rattle.review.specs.UnitStep.{unit_step, early_refusals, first_refusal, set_vote, named_by}
use Rattle.review.specs.Parts.{with_these, bare, without_votes, at_most_one, is_of_row, is_suggest, accepts_voted}
use Rattle.review.proofs.Steps.{unit_step-early}
use Rattle.review.proofs.Parts.{HasSource, source_stays, IsWith, row_step, IsSuggested, suggest_step, IsVoted, vote_step}
use Rattle.replies.specs.Bodies.{done}
use Rattle.office_specification.specs.declared.values.ActContext.{ActContext}
use Rattle.office_specification.specs.declared.values.Outcome.{Outcome}
use Rattle.office_specification.specs.declared.values.UnitOutcome.{UnitOutcome}
use Rattle.office_specification.specs.declared.values.UnitWrite.{UnitWrite}
use Rattle.office_specification.specs.declared.values.UnitWrite.TheVariants.{Whole, Row, Suggested, Voted}
use Rattle.office_specification.specs.UnitAccess.{without_suggestions, view_written, IsWriteOver}
use Rattle.office_specification.specs.UnitOutcomes.{outcome_of, outcome_of_decision, refusing, context_view, needs_suggestions, accepts_found, IsOutcomeBy}
use Rattle.outcomes.specs.UnitParts.{shown, of_whole, of_row, of_vote}

-- nothing is written where the act is refused
refused_is : (there : Option UnitView) (whole : Outcome) (written : UnitOutcome) → written.reply ≡ whole.reply → whole.view ≡ None → written.write ≡ None → IsOutcomeBy there whole written
refused_is there whole written replied refused none = record {
  reply = replied;
  view = ap (λ (o : Option UnitWrite). option_and_then (λ w. option_map (view_written w) there) o) none ∙ sym refused;
  over = subst (λ (o : Option UnitWrite). IfSome o (λ w. (view : UnitView) × (there ≡ Some view) × IsWriteOver view w)) (sym none) tt;
}

-- what is known of what is written: the last suggestion of the decided view
abbrev pub WritesLast : Outcome → UnitOutcome → Type 0
WritesLast outcome written =
    MatchOption outcome.view (written.write ≡ None) (λ view. (before : List Suggestion) (s : Suggestion) → view.unit.suggestions ≡ before ++ s ∷ [] → written.write ≡ Some (Suggested s))

module _ (caller number : Text) (act : UnitAct) where
  -- what the act comes to, with this view
  abbrev outcome_at : ActContext → Option UnitView → Outcome
  outcome_at f view = outcome_of (Some (record f { view = view })) caller number act

  abbrev decision_at : ActContext → UnitView → Decision
  decision_at f view = unit_step f.policy f.rule f.role caller number view act

  -- ---- by the whole

  by_whole : (v : UnitView) (d : Decision) → HasSource v d → IsOutcomeBy (Some v) (outcome_of_decision d) (of_whole (outcome_of_decision d))
  by_whole v (Done w values) same = record { reply = refl; view = refl; over = (v, refl, same) }
  by_whole v (Refused refusal) same = record { reply = refl; view = refl; over = tt }

  pub whole_is : (found : Option ActContext) → IsOutcomeBy (context_view found) (outcome_of found caller number act) (of_whole (outcome_of found caller number act))
  whole_is None = record { reply = refl; view = refl; over = tt }
  whole_is (Some f) = by f.view
    where
      by : (view : Option UnitView) → IsOutcomeBy view (outcome_at f view) (of_whole (outcome_at f view))
      by None = record { reply = refl; view = refl; over = tt }
      by (Some v) = by_whole v (decision_at f v) (source_stays f.policy f.rule f.role caller number v act)

  -- ---- by the unit's own values

  by_row : (v : UnitView) (d whole : Decision) → HasSource (bare v) d → IsWith v.unit.suggestions d whole → IsOutcomeBy (Some v) (outcome_of_decision whole) (of_row (outcome_of_decision d))
  by_row v (Done w values) whole same is = record {
    reply = ap (λ d. (outcome_of_decision d).reply) (sym is);
    view = ap (λ d. (outcome_of_decision d).view) (sym is);
    over = (v, refl, same);
  }
  by_row v (Refused refusal) whole same is = record {
    reply = ap (λ d. (outcome_of_decision d).reply) (sym is);
    view = ap (λ d. (outcome_of_decision d).view) (sym is);
    over = tt;
  }

  pub row_is : (full : Option ActContext) → needs_suggestions (without_suggestions full) act ≡ false →
      IsOutcomeBy (context_view full) (outcome_of full caller number act) (of_row (outcome_of (without_suggestions full) caller number act))
  row_is None e = record { reply = refl; view = refl; over = tt }
  row_is (Some f) e = by f.view e
    where
      early : UnitView → Option Refusal
      early v = first_refusal (early_refusals f.policy f.rule f.role v act)

      by_kind : (v : UnitView) (row : Bool) → is_of_row act.action ≡ row → (o : Option Refusal) → early v ≡ o → (not row && is_none o) ≡ false →
          IsOutcomeBy (Some v) (outcome_at f (Some v)) (of_row (outcome_at f (Some (bare v))))
      by_kind v true is o first e =
          by_row v (decision_at f (bare v)) (decision_at f v) (source_stays f.policy f.rule f.role caller number (bare v) act) (row_step f.policy f.rule f.role caller number v act is)
      by_kind v false is None first e = cc
      by_kind v false is (Some refusal) first e =
          by_row v (decision_at f (bare v)) (decision_at f v) (source_stays f.policy f.rule f.role caller number (bare v) act)
          (subst (λ (d : Decision). IsWith v.unit.suggestions d (decision_at f v)) (sym (unit_step-early f.policy f.rule f.role caller number (bare v) act refusal first))
          (unit_step-early f.policy f.rule f.role caller number v act refusal first))

      by : (view : Option UnitView) → needs_suggestions (Some (record f { view = option_map bare view })) act ≡ false →
          IsOutcomeBy view (outcome_at f view) (of_row (outcome_at f (option_map bare view)))
      by None e = record { reply = refl; view = refl; over = tt }
      by (Some v) e = by_kind v (is_of_row act.action) refl (early v) refl e

  -- ---- by the suggestions without the votes on them

  by_suggestion : (v : UnitView) (written : UnitOutcome) (d whole : Decision) → IsSuggested v d whole → written.reply ≡ (outcome_of_decision d).reply → WritesLast (outcome_of_decision d) written →
      IsOutcomeBy (Some v) (outcome_of_decision whole) written
  by_suggestion v written (Done w values) whole (s, ends, empty, is) replied writes =
      let write : written.write ≡ Some (Suggested s) = writes (map without_votes v.unit.suggestions) s ends in
      record {
        reply = replied ∙ ap (λ d. (outcome_of_decision d).reply) (sym is);
        view = ap (λ (o : Option UnitWrite). option_and_then (λ w. option_map (view_written w) (Some v)) o) write ∙ ap (λ d. (outcome_of_decision d).view) (sym is);
        over = subst (λ (o : Option UnitWrite). IfSome o (λ w. (view : UnitView) × (Some v ≡ Some view) × IsWriteOver view w)) (sym write) (v, refl, empty);
      }
  by_suggestion v written (Refused refusal) whole is replied writes =
      refused_is (Some v) (outcome_of_decision whole) written (replied ∙ ap (λ d. (outcome_of_decision d).reply) (sym is)) (ap (λ d. (outcome_of_decision d).view) is) writes

  suggest_is : (f : ActContext) (v : UnitView) (action : UnitAction) → is_suggest action ≡ true →
      let asked : UnitAct = record { seen = act.seen; action = action } in
      IsSuggested v (unit_step f.policy f.rule f.role caller number (with_these (map without_votes v.unit.suggestions) v) asked) (unit_step f.policy f.rule f.role caller number v asked)
  suggest_is f v (Suggest forms) e = suggest_step f.policy f.rule f.role caller number v act.seen forms
  suggest_is f v (Vote named value) e = cc
  suggest_is f v (Accept named) e = cc
  suggest_is f v (Dismiss named) e = cc
  suggest_is f v (Translate forms) e = cc
  suggest_is f v (Comment lines) e = cc
  suggest_is f v Approve e = cc
  suggest_is f v SendBack e = cc

  pub suggested_is : (full : Option ActContext) (suggestions : List Suggestion) (written : UnitOutcome) → is_suggest act.action ≡ true →
      IfSome (context_view full) (λ v. suggestions ≡ map without_votes v.unit.suggestions) →
      let outcome = outcome_of (shown suggestions (without_suggestions full)) caller number act in
      written.reply ≡ outcome.reply → WritesLast outcome written → IsOutcomeBy (context_view full) (outcome_of full caller number act) written
  suggested_is None suggestions written kind all replied writes = refused_is None (refusing NoLanguage) written replied refl writes
  suggested_is (Some f) suggestions written kind all replied writes = by f.view all replied writes
    where
      by : (view : Option UnitView) → IfSome view (λ v. suggestions ≡ map without_votes v.unit.suggestions) →
          let outcome = outcome_at f (option_map (with_these suggestions) (option_map bare view)) in
          written.reply ≡ outcome.reply → WritesLast outcome written → IsOutcomeBy view (outcome_at f view) written
      by None all replied writes = refused_is None (refusing NoUnit) written replied refl writes
      by (Some v) all replied writes =
          by_suggestion v written (decision_at f (with_these suggestions v)) (decision_at f v)
          (subst (λ (these : List Suggestion). IsSuggested v (decision_at f (with_these these v)) (decision_at f v)) (sym all) (suggest_is f v act.action kind))
          replied writes

module _ (caller number : Text) (seen : ℕ) (named : Text) (value : Option VoteValue) where
  abbrev asked : UnitAct
  asked = record { seen = seen; action = Vote named value }

  abbrev voted_at : ActContext → Option UnitView → Outcome
  voted_at f view = outcome_of (Some (record f { view = view })) caller number asked

  -- ---- by the one suggestion that is voted on

  -- what is written is by the whole, and nothing is told where the suggestion is accepted
  abbrev IsTold : UnitView → Decision → Option UnitOutcome → Type 0
  IsTold v whole written = IfSome written (IsOutcomeBy (Some v) (outcome_of_decision whole)) × (is_none written ≡ accepts_voted whole)

  by_vote : (f : ActContext) (v : UnitView) (d whole : Decision) → IsVoted f.policy f.rule f.role caller number v seen named value d whole →
      IsTold v whole (of_vote named caller value (outcome_of_decision d))
  by_vote f v (Done w values) whole (inl (gone, accepts)) =
      let none : of_vote named caller value (outcome_of_decision (Done w values)) ≡ None =
      ap (λ (all : List Suggestion). option_map (λ (sum : ℤ). record { write = Some (Voted named caller value sum); reply = done values }) (option_map (λ (s : Suggestion). vote_sum s.votes) (slice_get all 0))) gone in
      subst (λ (o : Option UnitOutcome). IsTold v whole o) (sym none) (tt, sym accepts)
  by_vote f v (Done w values) whole (inr (s, found, with_it, quiet, is)) =
      let sum : ℤ = vote_sum (set_vote caller value s.votes) in
      let told : UnitOutcome = record { write = Some (Voted named caller value sum); reply = done values } in
      let some : of_vote named caller value (outcome_of_decision (Done w values)) ≡ Some told =
      ap (λ (all : List Suggestion). option_map (λ (sum : ℤ). record { write = Some (Voted named caller value sum); reply = done values }) (option_map (λ (s : Suggestion). vote_sum s.votes) (slice_get all 0))) with_it in
      subst (λ (o : Option UnitOutcome). IsTold v whole o) (sym some) (
        record {
          reply = ap (λ d. (outcome_of_decision d).reply) (sym is);
          view = ap (λ d. (outcome_of_decision d).view) (sym is);
          over = (v, refl, (s, found, refl));
        },
        sym (ap accepts_voted is ∙ quiet),
      )
  by_vote f v (Refused refusal) whole is = (
    record {
      reply = ap (λ d. (outcome_of_decision d).reply) (sym is);
      view = ap (λ d. (outcome_of_decision d).view) (sym is);
      over = tt;
    },
    sym (ap accepts_voted is),
  )

  pub voted_is : (full : Option ActContext) (suggestion : Option Suggestion) → IfSome (context_view full) (λ v. suggestion ≡ suggestion_of named v.unit) →
      let written = of_vote named caller value (outcome_of (shown (at_most_one suggestion) (without_suggestions full)) caller number asked) in
      IfSome written (IsOutcomeBy (context_view full) (outcome_of full caller number asked)) × (is_none written ≡ accepts_found full caller number asked)
  voted_is None suggestion is = (record { reply = refl; view = refl; over = tt }, refl)
  voted_is (Some f) suggestion is = by f.view is
    where
      by : (view : Option UnitView) → IfSome view (λ v. suggestion ≡ suggestion_of named v.unit) →
          let written = of_vote named caller value (voted_at f (option_map (with_these (at_most_one suggestion)) (option_map bare view))) in
          IfSome written (IsOutcomeBy view (voted_at f view)) × (is_none written ≡ accepts_found (Some (record f { view = view })) caller number asked)
      by None is = (record { reply = refl; view = refl; over = tt }, refl)
      by (Some v) is =
          by_vote f v (unit_step f.policy f.rule f.role caller number (with_these (at_most_one suggestion) v) asked) (unit_step f.policy f.rule f.role caller number v asked)
          (vote_step f.policy f.rule f.role caller number v seen named value suggestion is)

-- the same, of an act that votes
pub voted_told : (caller number : Text) (act : UnitAct) (own named : Text) (value : Option VoteValue) → act.action ≡ Vote own value → named_by act.action ≡ Some named →
    (full : Option ActContext) (suggestion : Option Suggestion) → IfSome (context_view full) (λ v. suggestion ≡ suggestion_of named v.unit) →
    (written : Option UnitOutcome) → written ≡ of_vote own caller value (outcome_of (shown (at_most_one suggestion) (without_suggestions full)) caller number act) →
    IfSome written (IsOutcomeBy (context_view full) (outcome_of full caller number act)) × (is_none written ≡ accepts_found full caller number act)
voted_told caller number act own named value votes names full suggestion there written told =
    let one : Some own ≡ Some named = sym (ap named_by votes) ∙ names in
    let same : own ≡ named = cc in
    let is : act ≡ record { seen = act.seen; action = Vote own value } = ap (λ (action : UnitAction). record { seen = act.seen; action = action }) votes in
    subst (λ (w : Option UnitOutcome). IfSome w (IsOutcomeBy (context_view full) (outcome_of full caller number act)) × (is_none w ≡ accepts_found full caller number act)) (sym told)
    (subst (λ (x : UnitAct).
    let w = of_vote own caller value (outcome_of (shown (at_most_one suggestion) (without_suggestions full)) caller number x) in
    IfSome w (IsOutcomeBy (context_view full) (outcome_of full caller number x)) × (is_none w ≡ accepts_found full caller number x)) (sym is)
    (voted_is caller number act.seen own value full suggestion
    (subst (λ (n : Text). IfSome (context_view full) (λ v. suggestion ≡ suggestion_of n v.unit)) (sym same) there)))
