-- An act is decided alike over its unit and over a part of the unit's suggestions, where it looks at no more than that part.
use Rattle.std.proofs.Common.{◌≡◌, ◌⊎◌, inl, inr, ℕ, ℤ, pos, ◌+◌, ◌++◌, List, [], ◌∷◌, map, filter, subst, Bool, true, false, cond, not, ◌&&◌, Option, Some, None, IfSome, ap, refl, sym, ◌∙◌}
use Rattle.std.specs.Prelude.{◌||◌, nat_lt, nat_le, is_none, option_map, find, int_le, length, ◌==◌}
use Rattle.std.specs.Option.{option_map_or, option_or}
use Rattle.std.specs.List.{list_any}
use Rattle.std.specs.FinMap as maps
use Rattle.std.proofs.lemmas.List.{length-map}
use Rattle.plural_expr.specs.Values.{Rule}
use Rattle.po_text.specs.Texts.{Text, texts_eq}
use Rattle.units.specs.declared.unit.Policy.{Policy}
use Rattle.units.specs.declared.unit.Role.{Role}
use Rattle.units.specs.declared.unit.Unit.{Unit}
use Rattle.units.specs.declared.unit.UnitView.{UnitView}
use Rattle.units.specs.declared.unit.UnitAct.{UnitAct}
use Rattle.units.specs.declared.unit.UnitAction.{UnitAction}
use Rattle.units.specs.declared.unit.UnitAction.TheVariants.{Suggest, Vote, Accept, Dismiss, Translate, Comment, Approve, SendBack}
use Rattle.units.specs.declared.unit.Suggestion.{Suggestion}
use Rattle.units.specs.declared.unit.Refusal.{Refusal}
use Rattle.units.specs.declared.unit.Refusal.TheVariants.{NoSuggestion, VotingOff, ReviewsOff, IsFull, IsSame, IsUnfit, PastLimit}
use Rattle.units.specs.declared.votes.VoteValue.{VoteValue}
use Rattle.units.specs.Limits.{revision_limit, suggestion_limit, vote_limit}
use Rattle.units.specs.Units.{has_number, suggestion_of, without_suggestion, shown_state, is_approved, all_empty, vote_sum}
use Rattle.review.specs.declared.decision.Decision.{Decision}
use Rattle.review.specs.declared.decision.Decision.TheVariants.{Done, Refused}
use Rattle.review.specs.declared.decision.Values.{Values}
use Rattle.review.specs.declared.decision.Values.TheVariants.{Voted}
use Rattle.review.specs.UnitStep.{unit_step, unit_after, values_of, refusals, early_refusals, refusals_by_act, first_refusal, with_accepted, with_forms, with_vote, set_vote, sum_of, is_due, is_same_vote}
use Rattle.review.specs.Parts.{with_these, bare, without_votes, is_of_row, is_accepting, accepts_voted, at_most_one}
use Rattle.review.proofs.Steps.{unit_step-early, first_of_both}
use Rattle.review.proofs.Ballots.{with_votes, suggestion_of-with_vote}

-- ---- what every act is refused by

-- whatever is suggested for the unit
pub early_step : (policy : Policy) (rule : Rule) (role : Role) (view : UnitView) (act : UnitAct) (refused : Option Refusal) →
    refused ≡ first_refusal (early_refusals policy rule role view act) →
    IfSome refused (λ refusal. (caller number : Text) (suggestions : List Suggestion) → unit_step policy rule role caller number (with_these suggestions view) act ≡ Refused refusal)
early_step policy rule role view act None first = tt
early_step policy rule role view act (Some refusal) first =
    λ caller number suggestions. unit_step-early policy rule role caller number (with_these suggestions view) act refusal (sym first)

-- ---- the source of a view that an act leaves

abbrev pub HasSource : UnitView → Decision → Type 0
HasSource view (Done after values) = after.source ≡ view.source
HasSource view (Refused refusal) = Prim.Unit {0}

-- is the one of before
pub source_stays : (policy : Policy) (rule : Rule) (role : Role) (caller number : Text) (view : UnitView) (act : UnitAct) → HasSource view (unit_step policy rule role caller number view act)
unfolding unit_step
source_stays policy rule role caller number view act = by (first_refusal (refusals policy rule role caller number view act))
  where
    by : (o : Option Refusal) → HasSource view (option_map_or Refused o (Done (record view { unit = unit_after policy rule caller number view act.action })
        (values_of policy caller number view (unit_after policy rule caller number view act.action) act.action)))
    by None = refl
    by (Some refusal) = tt

-- ---- acts on the unit's own values

-- the second decision is the first, with these suggestions in its view
abbrev pub IsWith : List Suggestion → Decision → Decision → Type 0
IsWith suggestions (Done after values) whole = whole ≡ Done (with_these suggestions after) values
IsWith suggestions (Refused refusal) whole = whole ≡ Refused refusal

is_with : (suggestions : List Suggestion) (o : Option Refusal) (after : UnitView) (values : Values) →
    IsWith suggestions (option_map_or Refused o (Done after values)) (option_map_or Refused o (Done (with_these suggestions after) values))
is_with suggestions None after values = refl
is_with suggestions (Some refusal) after values = refl

-- are decided over the unit without its suggestions, which stay
pub row_step : (policy : Policy) (rule : Rule) (role : Role) (caller number : Text) (view : UnitView) (act : UnitAct) → is_of_row act.action ≡ true →
    IsWith view.unit.suggestions (unit_step policy rule role caller number (bare view) act) (unit_step policy rule role caller number view act)
unfolding unit_step refusals unit_after
row_step policy rule role caller number view act = by act.action
  where
    step : UnitView → UnitAction → Decision
    step v action = unit_step policy rule role caller number v (record { seen = act.seen; action = action })

    by_row : (action : UnitAction) → Option Refusal
    by_row action = first_refusal (refusals policy rule role caller number (bare view) (record { seen = act.seen; action = action }))

    after : UnitAction → UnitView
    after action = record (bare view) { unit = unit_after policy rule caller number (bare view) action }

    values : UnitAction → Values
    values action = values_of policy caller number (bare view) (unit_after policy rule caller number (bare view) action) action

    by : (action : UnitAction) → is_of_row action ≡ true → IsWith view.unit.suggestions (step (bare view) action) (step view action)
    by (Suggest forms) e = cc
    by (Vote named value) e = cc
    by (Accept named) e = cc
    by (Dismiss named) e = cc
    by (Translate forms) e = is_with view.unit.suggestions (by_row (Translate forms)) (after (Translate forms)) (values (Translate forms))
    by (Comment lines) e = is_with view.unit.suggestions (by_row (Comment lines)) (after (Comment lines)) (values (Comment lines))
    by Approve e = is_with view.unit.suggestions (by_row Approve) (after Approve) (values Approve)
    by SendBack e = is_with view.unit.suggestions (by_row SendBack) (after SendBack) (values SendBack)

-- ---- suggestions

-- the second decision is the first, over a unit with votes on its suggestions: the new one, on which nobody has voted, is the last
abbrev pub IsSuggested : UnitView → Decision → Decision → Type 0
IsSuggested view (Done after values) whole =
    (s : Suggestion) × (after.unit.suggestions ≡ map without_votes view.unit.suggestions ++ s ∷ []) × (s.votes ≡ maps.empty)
    × (whole ≡ Done (with_these (view.unit.suggestions ++ s ∷ []) view) values)
IsSuggested view (Refused refusal) whole = whole ≡ Refused refusal

same_forms : (forms : List Text) (all : List Suggestion) → list_any (λ s. texts_eq forms s.forms) (map without_votes all) ≡ list_any (λ s. texts_eq forms s.forms) all
same_forms forms [] = refl
same_forms forms (s ∷ all) = ap (λ rest. texts_eq forms s.forms || rest) (same_forms forms all)

-- are decided over the unit's suggestions without the votes on them
pub suggest_step : (policy : Policy) (rule : Rule) (role : Role) (caller number : Text) (view : UnitView) (seen : ℕ) (forms : List Text) →
    let act : UnitAct = record { seen = seen; action = Suggest forms } in
    IsSuggested view (unit_step policy rule role caller number (with_these (map without_votes view.unit.suggestions) view) act) (unit_step policy rule role caller number view act)
unfolding unit_step refusals unit_after
suggest_step policy rule role caller number view seen forms =
    subst (λ (o : Option Refusal). IsSuggested view (unit_step policy rule role caller number part act) (option_map_or Refused o (done view)))
    (λ i. first_by (length-map view.unit.suggestions without_votes i) (same_forms forms view.unit.suggestions i))
    (by (first_refusal (refusals policy rule role caller number part act)))
  where
    act : UnitAct
    act = record { seen = seen; action = Suggest forms }

    part : UnitView
    part = with_these (map without_votes view.unit.suggestions) view

    done : UnitView → Decision
    done v =
        let unit = unit_after policy rule caller number v (Suggest forms) in
        Done (record v { unit = unit }) (values_of policy caller number v unit (Suggest forms))

    first_by : ℕ → Bool → Option Refusal
    first_by count there =
        first_refusal (early_refusals policy rule role view act
        ++ (false, NoSuggestion) ∷ (false, VotingOff) ∷ (false, ReviewsOff)
        ∷ (nat_le suggestion_limit count, IsFull)
        ∷ (texts_eq forms view.unit.forms || there, IsSame)
        ∷ (all_empty forms, IsUnfit)
        ∷ (nat_lt revision_limit view.unit.revision, PastLimit)
        ∷ [])

    by : (o : Option Refusal) → IsSuggested view (option_map_or Refused o (done part)) (option_map_or Refused o (done view))
    by None = (record { number = number; suggester = caller; forms = forms; votes = maps.empty }, refl, refl, refl)
    by (Some refusal) = refl

-- ---- votes

-- what is found in a list passes the test
found_passes : (test : Suggestion → Bool) (all : List Suggestion) (s : Suggestion) → find test all ≡ Some s → test s ≡ true
found_passes test [] s e = cc
found_passes test (t ∷ all) s e = by (test t) refl (found_passes test all s) e
  where
    by : (b : Bool) → test t ≡ b → (find test all ≡ Some s → test s ≡ true) → cond b (Some t) (find test all) ≡ Some s → test s ≡ true
    by true is later e = let same : t ≡ s = cc in subst (λ x. test x ≡ true) same is
    by false is later e = later e

module _ (policy : Policy) (rule : Rule) (role : Role) (caller number : Text) (view : UnitView) (seen : ℕ) (named : Text) (value : Option VoteValue) where
  abbrev act : UnitAct
  act = record { seen = seen; action = Vote named value }

  abbrev voted : UnitView → Unit
  voted v = with_vote named caller value v.unit

  -- the suggestion is accepted, and goes; or the vote is on it, and the second decision is the first over a unit with more suggestions
  abbrev pub IsVoted : Decision → Decision → Type 0
  IsVoted (Done after values) whole =
      ((after.unit.suggestions ≡ []) × (accepts_voted whole ≡ true))
      ⊎ ((s : Suggestion) × (suggestion_of named view.unit ≡ Some s) × (after.unit.suggestions ≡ with_votes caller value s ∷ [])
      × (is_accepting values ≡ false) × (whole ≡ Done (record view { unit = voted view }) values))
  IsVoted (Refused refusal) whole = whole ≡ Refused refusal

  -- what is done over a view whose suggestion is due, or isn't
  abbrev done : UnitView → Bool → Decision
  done v due =
      let after = cond due (with_accepted policy rule (record v { unit = voted v }) named) (voted v) in
      Done (record v { unit = after }) (Voted due after.revision (shown_state v.source after) (sum_of named (voted v)))

  -- which refusal is the first, by the suggestion and by the revision that follows
  abbrev first_by : Option Suggestion → ℕ → Option Refusal
  first_by there revision =
      first_refusal (early_refusals policy rule role view act
      ++ (is_none there, NoSuggestion) ∷ (not policy.voting, VotingOff) ∷ (false, ReviewsOff)
      ∷ (option_map_or (λ s. nat_lt vote_limit (maps.len (set_vote caller value s.votes))) there false, IsFull)
      ∷ (option_map_or (is_same_vote caller value) there false, IsSame)
      ∷ (false, IsUnfit)
      ∷ (nat_lt revision_limit revision, PastLimit)
      ∷ [])

  -- whether it is due, by the suggestion with the vote
  abbrev due_by : UnitView → Option Suggestion → Bool
  due_by v there = not (policy.accept_at == 0) && int_le (pos policy.accept_at) (option_map_or (λ s. vote_sum s.votes) there (pos 0)) && not (is_approved v.unit.state)

  -- the revision that follows, by it
  abbrev revision_by : UnitView → Option Suggestion → ℕ
  revision_by v there = cond (due_by v there) (option_map_or (λ s. v.unit.revision + 1) there v.unit.revision) v.unit.revision

  revision_is : (v : UnitView) → (unit_after policy rule caller number v (Vote named value)).revision ≡ revision_by v (suggestion_of named (voted v))
  unfolding unit_after
  revision_is v = by (is_due policy named (voted v)) (suggestion_of named (voted v))
    where
      by : (due : Bool) (there : Option Suggestion) →
          (cond due (option_map_or (λ (s : Suggestion). without_suggestion named (with_forms policy rule (record v { unit = voted v }) s.forms)) there (voted v)) (voted v)).revision
          ≡ cond due (option_map_or (λ (s : Suggestion). v.unit.revision + 1) there v.unit.revision) v.unit.revision
      by false there = refl
      by true None = refl
      by true (Some s) = refl

  module _ (these : List Suggestion) (there : find (has_number named) these ≡ suggestion_of named view.unit) where
    abbrev part : UnitView
    part = with_these these view

    there_voted : suggestion_of named (voted part) ≡ suggestion_of named (voted view)
    there_voted =
        suggestion_of-with_vote named caller value part.unit
        ∙ ap (option_map (with_votes caller value)) there
        ∙ sym (suggestion_of-with_vote named caller value view.unit)

    same_due : is_due policy named (voted part) ≡ is_due policy named (voted view)
    same_due = ap (due_by view) there_voted

    same_sum : sum_of named (voted part) ≡ sum_of named (voted view)
    same_sum = ap (λ (o : Option Suggestion). option_map_or (λ s. vote_sum s.votes) o (pos 0)) there_voted

    same_first : first_refusal (refusals policy rule role caller number part act) ≡ first_refusal (refusals policy rule role caller number view act)
    unfolding refusals
    same_first =
        (λ i. first_by (there i) (revision_is part i))
        ∙ ap (λ (o : Option Suggestion). first_by (suggestion_of named view.unit) (revision_by view o)) there_voted
        ∙ sym (ap (first_by (suggestion_of named view.unit)) (revision_is view))

  -- where it isn't there
  none_step : None ≡ suggestion_of named view.unit → IsVoted (unit_step policy rule role caller number (bare view) act) (unit_step policy rule role caller number view act)
  unfolding unit_step refusals unit_after
  none_step e =
      subst (λ (o : Option Refusal). IsVoted (unit_step policy rule role caller number (bare view) act) (option_map_or Refused o (done view (is_due policy named (voted view)))))
      (same_first [] e) (by (first_refusal (refusals policy rule role caller number (bare view) act)) refl)
    where
      refused : (early : Option Refusal) → option_or early (Some NoSuggestion) ≡ None → (d : Decision) → IsVoted (done (bare view) (is_due policy named (voted (bare view)))) d
      refused None e d = cc
      refused (Some refusal) e d = cc

      by : (o : Option Refusal) → first_refusal (refusals policy rule role caller number (bare view) act) ≡ o →
          IsVoted (option_map_or Refused o (done (bare view) (is_due policy named (voted (bare view))))) (option_map_or Refused o (done view (is_due policy named (voted view))))
      by None none =
          refused (first_refusal (early_refusals policy rule role (bare view) act))
          (sym (first_of_both (early_refusals policy rule role (bare view) act) (refusals_by_act policy rule caller number (bare view) (Vote named value))) ∙ none)
          (done view (is_due policy named (voted view)))
      by (Some refusal) first = refl

  -- where it is there
  one_step : (s : Suggestion) → Some s ≡ suggestion_of named view.unit →
      IsVoted (unit_step policy rule role caller number (with_these (s ∷ []) view) act) (unit_step policy rule role caller number view act)
  unfolding unit_step unit_after
  one_step s e =
      subst (λ (o : Option Refusal). IsVoted (unit_step policy rule role caller number one act) (option_map_or Refused o (done view (is_due policy named (voted view)))))
      (same_first (s ∷ []) there) (by (first_refusal (refusals policy rule role caller number one act)))
    where
      one : UnitView
      one = with_these (s ∷ []) view

      own : has_number named s ≡ true
      own = found_passes (has_number named) view.unit.suggestions s (sym e)

      there : find (has_number named) (s ∷ []) ≡ suggestion_of named view.unit
      there = ap (λ b. cond b (Some s) None) own ∙ e

      with_it : (voted one).suggestions ≡ with_votes caller value s ∷ []
      with_it = ap (λ (b : Bool). cond b (with_votes caller value s) s ∷ []) own

      found_with_it : suggestion_of named (voted one) ≡ Some (with_votes caller value s)
      found_with_it = suggestion_of-with_vote named caller value one.unit ∙ ap (λ (b : Bool). option_map (with_votes caller value) (cond b (Some s) None)) own

      gone : (with_accepted policy rule (record one { unit = voted one }) named).suggestions ≡ []
      gone =
          ap (λ (o : Option Suggestion). (option_map_or (λ (t : Suggestion). without_suggestion named (with_forms policy rule (record one { unit = voted one }) t.forms)) o (voted one)).suggestions) found_with_it
          ∙ ap (λ (all : List Suggestion). filter (λ t. not (has_number named t)) all) with_it
          ∙ ap (λ (b : Bool). cond (not b) (with_votes caller value s ∷ []) []) own

      by_due : (due : Bool) → IsVoted (done one due) (done view due)
      by_due true = inl (gone, refl)
      by_due false =
          inr (
            s,
            sym e,
            with_it,
            refl,
            ap (λ (sum : ℤ). Done (record view { unit = voted view }) (Voted false view.unit.revision (shown_state view.source (voted view)) sum)) (sym (same_sum (s ∷ []) there)),
          )

      by : (o : Option Refusal) → IsVoted (option_map_or Refused o (done one (is_due policy named (voted one)))) (option_map_or Refused o (done view (is_due policy named (voted view))))
      by None = subst (λ (due : Bool). IsVoted (done one due) (done view (is_due policy named (voted view)))) (sym (same_due (s ∷ []) there)) (by_due (is_due policy named (voted view)))
      by (Some refusal) = refl

  -- votes are decided over the one suggestion that they are on
  pub vote_step : (there : Option Suggestion) → there ≡ suggestion_of named view.unit →
      IsVoted (unit_step policy rule role caller number (with_these (at_most_one there) view) act) (unit_step policy rule role caller number view act)
  vote_step None e = none_step e
  vote_step (Some s) e = one_step s e
