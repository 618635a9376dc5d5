-- What an act comes to that meets none of its refusals, but perhaps the limit of revisions.
use Rattle.std.proofs.Common.{◌≡◌, ℤ, pos, subst, Bool, true, false, cond, not, ◌&&◌, Option, Some, None, ap, refl, sym, ◌∙◌}
use Rattle.std.specs.Prelude.{nat_lt, is_none, option_map, int_le, ◌==◌}
use Rattle.std.specs.Option.{option_map_or}
use Rattle.std.specs.FinMap.{len}
use Rattle.plural_expr.specs.Values.{Rule}
use Rattle.po_text.specs.Texts.{Text}
use Rattle.units.specs.declared.unit.Policy.{Policy}
use Rattle.units.specs.declared.unit.Unit.{Unit}
use Rattle.units.specs.declared.unit.UnitView.{UnitView}
use Rattle.units.specs.declared.unit.UnitAction.TheVariants.{Vote, Accept}
use Rattle.units.specs.declared.unit.Suggestion.{Suggestion}
use Rattle.units.specs.declared.unit.Refusal.{Refusal}
use Rattle.units.specs.declared.unit.Refusal.TheVariants.{NoSuggestion, VotingOff, IsFull, IsSame, PastLimit}
use Rattle.units.specs.declared.votes.VoteValue.{VoteValue}
use Rattle.units.specs.Limits.{revision_limit, vote_limit}
use Rattle.units.specs.Units.{suggestion_of, shown_state, is_approved}
use Rattle.review.specs.declared.decision.Decision.{Decision}
use Rattle.review.specs.declared.decision.Decision.TheVariants.{Done, Refused}
use Rattle.review.specs.declared.decision.Values.TheVariants.{Voted}
use Rattle.review.specs.UnitStep.{unit_after, decision_by_act, with_accepted, plain_values, with_vote, set_vote, sum_of, is_due, is_same_vote}
use Rattle.review.proofs.Ballots.{with_votes, suggestion_of-with_vote}

-- a value that is there is within the limit, and the one that there is
pub within-from_some : {X : Type 0} (b : Bool) (x y : X) → Some x ≡ cond b None (Some y) → (b ≡ false) × (x ≡ y)
within-from_some true x y e = cc
within-from_some false x y e = (refl, cc)

pub past-from_none : {X : Type 0} (b : Bool) (y : X) → None ≡ cond b None (Some y) → b ≡ true
past-from_none true y e = refl
past-from_none false y e = cc

module _ (policy : Policy) (rule : Rule) (caller number : Text) (view : UnitView) (named : Text) (s : Suggestion) (found : suggestion_of named view.unit ≡ Some s) where
  -- a suggestion that is there is accepted
  pub accept-done : nat_lt revision_limit (with_accepted policy rule view named).revision ≡ false →
      decision_by_act policy rule caller number view (Accept named) ≡ Done (record view { unit = with_accepted policy rule view named }) (plain_values view (with_accepted policy rule view named))
  unfolding decision_by_act unit_after
  accept-done within =
      let after = with_accepted policy rule view named in
      let done = Done (record view { unit = after }) (plain_values view after) in
      ap (λ (o : Option Suggestion). option_map_or Refused (cond (is_none o) (Some NoSuggestion) (cond (nat_lt revision_limit after.revision) (Some PastLimit) None)) done) found
      ∙ ap (λ b. option_map_or Refused (cond b (Some PastLimit) None) done) within

  module _ (value : Option VoteValue) where
    abbrev voted : Unit
    voted = with_vote named caller value view.unit

    -- what a vote comes to, by whether its suggestion is accepted
    abbrev outcome : Bool → Decision
    outcome due =
        let after = cond due (with_accepted policy rule (record view { unit = voted }) named) voted in
        option_map_or Refused (cond (nat_lt revision_limit after.revision) (Some PastLimit) None)
        (Done (record view { unit = after }) (Voted due after.revision (shown_state view.source after) (sum_of named voted)))

    -- what a vote on a suggestion that is due comes to, for the view with the vote
    abbrev pub Accepts : UnitView → ℤ → Decision → Type 0
    Accepts v votes d = (s' : Suggestion) → suggestion_of named v.unit ≡ Some s' → s'.forms ≡ s.forms →
        let after = with_accepted policy rule v named in
        d ≡ cond (nat_lt revision_limit after.revision) (Refused PastLimit) (Done (record v { unit = after }) (Voted true after.revision (shown_state v.source after) votes))

    by_limit : (past : Bool) (done : Decision) → cond past (Refused PastLimit) done ≡ option_map_or Refused (cond past (Some PastLimit) None) done
    by_limit true done = refl
    by_limit false done = refl

    pub vote-outcome : policy.voting ≡ true → nat_lt vote_limit (len (set_vote caller value s.votes)) ≡ false → is_same_vote caller value s ≡ false →
        (due : Bool) → is_due policy named voted ≡ due → decision_by_act policy rule caller number view (Vote named value) ≡ outcome due
    unfolding decision_by_act unit_after
    vote-outcome voting room other due is =
        let after = cond (is_due policy named voted) (with_accepted policy rule (record view { unit = voted }) named) voted in
        let done = Done (record view { unit = after }) (Voted (is_due policy named voted) after.revision (shown_state view.source after) (sum_of named voted)) in
        let last : Option Refusal = cond (nat_lt revision_limit after.revision) (Some PastLimit) None in
        ap (λ (o : Option Suggestion). option_map_or Refused (cond (is_none o) (Some NoSuggestion) (cond (not policy.voting) (Some VotingOff)
        (cond (option_map_or (λ s. nat_lt vote_limit (len (set_vote caller value s.votes))) o false) (Some IsFull) (cond (option_map_or (is_same_vote caller value) o false) (Some IsSame) last)))) done) found
        ∙ ap (λ b. option_map_or Refused (cond (not b) (Some VotingOff)
        (cond (nat_lt vote_limit (len (set_vote caller value s.votes))) (Some IsFull) (cond (is_same_vote caller value s) (Some IsSame) last))) done) voting
        ∙ ap (λ b. option_map_or Refused (cond b (Some IsFull) (cond (is_same_vote caller value s) (Some IsSame) last)) done) room
        ∙ ap (λ b. option_map_or Refused (cond b (Some IsSame) last) done) other
        ∙ ap outcome is

    pub vote-accepted : (v : UnitView) (votes : ℤ) → v ≡ record view { unit = voted } → votes ≡ sum_of named v.unit →
        policy.voting ≡ true → nat_lt vote_limit (len (set_vote caller value s.votes)) ≡ false → is_same_vote caller value s ≡ false →
        not (policy.accept_at == 0) && int_le (pos policy.accept_at) votes && not (is_approved v.unit.state) ≡ true →
        (d : Decision) → Accepts v votes d → d ≡ decision_by_act policy rule caller number view (Vote named value)
    vote-accepted v votes same summed voting room other due d accepts =
        let view' : UnitView = record view { unit = voted } in
        let summed' : votes ≡ sum_of named voted = summed ∙ ap (λ v. sum_of named v.unit) same in
        let due' : is_due policy named voted ≡ true = sym (λ i. not (policy.accept_at == 0) && int_le (pos policy.accept_at) (summed' i) && not (is_approved (same i).unit.state)) ∙ due in
        let accepts' : Accepts view' (sum_of named voted) d = subst (λ n. Accepts view' n d) summed' (subst (λ v. Accepts v votes d) same accepts) in
        let kept = suggestion_of-with_vote named caller value view.unit ∙ ap (option_map (with_votes caller value)) found in
        let after = with_accepted policy rule view' named in
        accepts' (with_votes caller value s) kept refl
        ∙ by_limit (nat_lt revision_limit after.revision) (Done (record view { unit = after }) (Voted true after.revision (shown_state view.source after) (sum_of named voted)))
        ∙ sym (vote-outcome voting room other true due')
