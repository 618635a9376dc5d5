-- An act on one unit: what refuses it, and what it does.
-- States, suggestions, votes and review are those of Weblate's documentation ("Translation workflows", "Translation
-- states"); the rules and their order are this project's.
use Rattle.std.specs.Prelude.{List, [], ◌∷◌, ◌++◌, length, map, Bool, true, false, not, ◌&&◌, ◌||◌, ◌==◌, nat_lt, nat_le, if◌then◌else◌, Option, Some, None, is_none, ℤ, pos, int_le}
use Rattle.std.specs.Option.{option_map_or, option_eq}
use Rattle.std.specs.List.{list_any}
use Rattle.std.specs.FinMap as maps
use Rattle.plural_expr.specs.Values.{Rule}
use Rattle.units.specs.declared.unit.Unit.{Unit}
use Rattle.units.specs.declared.unit.UnitView.{UnitView}
use Rattle.units.specs.declared.unit.UnitAct.{UnitAct}
use Rattle.units.specs.declared.unit.UnitState.{UnitState}
use Rattle.units.specs.declared.unit.UnitState.TheVariants.{NeedsEditing, Approved}
use Rattle.units.specs.declared.unit.Role.{Role}
use Rattle.units.specs.declared.unit.Role.TheVariants.{Guest, Translator, Reviewer}
use Rattle.units.specs.declared.unit.Policy.{Policy}
use Rattle.units.specs.declared.unit.Suggestion.{Suggestion}
use Rattle.units.specs.declared.unit.UnitAction.{UnitAction}
use Rattle.units.specs.declared.unit.UnitAction.TheVariants.{Suggest, Vote, Accept, Dismiss, Translate, Comment, Approve, SendBack}
use Rattle.units.specs.declared.unit.Refusal.{Refusal}
use Rattle.units.specs.declared.unit.Refusal.TheVariants.{NoUnit, BelowRole, IsReadOnly, IsStale, IsApproved, PluralCount, NoSuggestion, VotingOff, ReviewsOff, IsFull, IsSame, IsUnfit, PastLimit}
use Rattle.units.specs.declared.votes.VoteValue.{VoteValue}
use Rattle.po_text.specs.Texts.{Text, text_cmp, text_eq, texts_eq}
use Rattle.units.specs.Units.{forms_needed, all_empty, is_below, is_read_only, is_approved, is_translated, is_untranslated, is_needs_editing, state_eq, shown_state, in_state, next_revision, has_number, suggestion_of, without_suggestion, vote_eq, vote_sum}
use Rattle.units.specs.Limits.{revision_limit, suggestion_limit, vote_limit}
use Rattle.checks.specs.Source.{Source}
use Rattle.checks.specs.Result.{result_state}
use Rattle.review.specs.declared.decision.Decision.{Decision}
use Rattle.review.specs.declared.decision.Decision.TheVariants.{Done, Refused}
use Rattle.review.specs.declared.decision.Values.{Values}
use Rattle.review.specs.declared.decision.Values.TheVariants.{Plain, Suggested, Voted}

-- ---- the state that a translation gives

-- What a unit is checked against: the msgid of its key and its msgid_plural, with the flags of its template's entry.
-- They are that entry's own, since in an office a unit that isn't obsolete has its entry's key and msgid_plural.
abbrev pub source_of : UnitView → Source
source_of view = record {
  id = view.unit.key.id;
  plural = view.unit.plural;
  flags = option_map_or (λ entry. entry.flags) view.source [];
}

-- the state that forms give the view's unit
abbrev pub state_of : Policy → Rule → UnitView → List Text → UnitState
state_of policy rule view forms = result_state policy rule (source_of view) forms

-- ---- effects

-- the unit with these forms, in the state that they give
abbrev pub with_forms : Policy → Rule → UnitView → List Text → Unit
with_forms policy rule view forms = next_revision (in_state (state_of policy rule view forms) (record view.unit { forms = forms }))

-- the unit with a suggestion more, the last, without votes
abbrev pub with_suggestion : Text → Text → List Text → Unit → Unit
with_suggestion caller number forms unit =
    let suggestion : Suggestion = record { number = number; suggester = caller; forms = forms; votes = maps.empty } in
    record unit { suggestions = unit.suggestions ++ suggestion ∷ [] }

-- the unit takes the suggestion's forms, and that suggestion alone goes
abbrev pub with_accepted : Policy → Rule → UnitView → Text → Unit
with_accepted policy rule view number =
    option_map_or (λ suggestion. without_suggestion number (with_forms policy rule view suggestion.forms)) (suggestion_of number view.unit) view.unit

-- the caller's vote is replaced; none removes it
abbrev pub set_vote : Text → Option VoteValue → maps.FinMap text_cmp VoteValue → maps.FinMap text_cmp VoteValue
set_vote caller None votes = maps.remove votes caller
set_vote caller (Some value) votes = maps.insert votes caller value

-- the unit with the caller's vote on the suggestion with this number
abbrev pub with_vote : Text → Text → Option VoteValue → Unit → Unit
with_vote number caller value unit =
    record unit { suggestions = map (λ s. if has_number number s then record s { votes = set_vote caller value s.votes } else s) unit.suggestions }

-- the sum of a suggestion; 0 where there is none
abbrev pub sum_of : Text → Unit → ℤ
sum_of number unit = option_map_or (λ s. vote_sum s.votes) (suggestion_of number unit) (pos 0)

-- after a vote a suggestion is accepted where `accept_at` isn't 0, the sum is at least `accept_at`, and the unit isn't approved
abbrev pub is_due : Policy → Text → Unit → Bool
is_due policy number unit = not (policy.accept_at == 0) && int_le (pos policy.accept_at) (sum_of number unit) && not (is_approved unit.state)

-- the unit after the caller's vote: the suggestion is accepted if it is due by then
abbrev pub after_vote : Policy → Rule → UnitView → Text → Unit → Unit
after_vote policy rule view number unit = if is_due policy number unit then with_accepted policy rule (record view { unit = unit }) number else unit

-- the unit after an act that isn't refused
unfoldable pub unit_after : Policy → Rule → Text → Text → UnitView → UnitAction → Unit
unit_after policy rule caller number view (Suggest forms) = with_suggestion caller number forms view.unit
unit_after policy rule caller number view (Vote named value) = after_vote policy rule view named (with_vote named caller value view.unit)
unit_after policy rule caller number view (Accept named) = with_accepted policy rule view named
unit_after policy rule caller number view (Dismiss named) = without_suggestion named view.unit
unit_after policy rule caller number view (Translate forms) = with_forms policy rule view forms
unit_after policy rule caller number view (Comment lines) = next_revision (record view.unit { comment = lines })
unit_after policy rule caller number view Approve = next_revision (in_state Approved view.unit)
unit_after policy rule caller number view SendBack = next_revision (in_state NeedsEditing view.unit)

-- ---- the reply's values, of the unit before and after

abbrev pub plain_values : UnitView → Unit → Values
plain_values view unit = Plain unit.revision (shown_state view.source unit)

abbrev pub values_of : Policy → Text → Text → UnitView → Unit → UnitAction → Values
values_of policy caller number view unit (Suggest forms) = Suggested unit.revision (shown_state view.source unit) number (pos 1)
values_of policy caller number view unit (Vote named value) =
    let voted = with_vote named caller value view.unit in
    Voted (is_due policy named voted) unit.revision (shown_state view.source unit) (sum_of named voted)
values_of policy caller number view unit (Accept named) = plain_values view unit
values_of policy caller number view unit (Dismiss named) = plain_values view unit
values_of policy caller number view unit (Translate forms) = plain_values view unit
values_of policy caller number view unit (Comment lines) = plain_values view unit
values_of policy caller number view unit Approve = plain_values view unit
values_of policy caller number view unit SendBack = plain_values view unit

-- ---- refusals

abbrev pub least_role : Policy → UnitAction → Role
least_role policy (Suggest forms) = if policy.guests_suggest then Guest else Translator
least_role policy (Vote named value) = Translator
least_role policy (Accept named) = Translator
least_role policy (Dismiss named) = Translator
least_role policy (Translate forms) = Translator
least_role policy (Comment lines) = Translator
least_role policy Approve = Reviewer
least_role policy SendBack = Reviewer

-- what nobody below reviewer does to an approved unit
abbrev pub edits : UnitAction → Bool
edits (Suggest forms) = false
edits (Vote named value) = false
edits (Accept named) = true
edits (Dismiss named) = false
edits (Translate forms) = true
edits (Comment lines) = true
edits Approve = false
edits SendBack = false

-- the forms that an act brings
abbrev pub forms_of : UnitAction → Option (List Text)
forms_of (Suggest forms) = Some forms
forms_of (Vote named value) = None
forms_of (Accept named) = None
forms_of (Dismiss named) = None
forms_of (Translate forms) = Some forms
forms_of (Comment lines) = None
forms_of Approve = None
forms_of SendBack = None

-- the number of the suggestion that an act names
abbrev pub named_by : UnitAction → Option Text
named_by (Suggest forms) = None
named_by (Vote named value) = Some named
named_by (Accept named) = Some named
named_by (Dismiss named) = Some named
named_by (Translate forms) = None
named_by (Comment lines) = None
named_by Approve = None
named_by SendBack = None

abbrev pub is_vote : UnitAction → Bool
is_vote (Suggest forms) = false
is_vote (Vote named value) = true
is_vote (Accept named) = false
is_vote (Dismiss named) = false
is_vote (Translate forms) = false
is_vote (Comment lines) = false
is_vote Approve = false
is_vote SendBack = false

abbrev pub is_review : UnitAction → Bool
is_review (Suggest forms) = false
is_review (Vote named value) = false
is_review (Accept named) = false
is_review (Dismiss named) = false
is_review (Translate forms) = false
is_review (Comment lines) = false
is_review Approve = true
is_review SendBack = true

-- a suggestion past those that a unit may have, or a vote past those of a suggestion
abbrev pub is_full : Text → Unit → UnitAction → Bool
is_full caller unit (Suggest forms) = nat_le suggestion_limit (length unit.suggestions)
is_full caller unit (Vote named value) = option_map_or (λ s. nat_lt vote_limit (maps.len (set_vote caller value s.votes))) (suggestion_of named unit) false
is_full caller unit (Accept named) = false
is_full caller unit (Dismiss named) = false
is_full caller unit (Translate forms) = false
is_full caller unit (Comment lines) = false
is_full caller unit Approve = false
is_full caller unit SendBack = false

-- the forms are the unit's, or those of one of its suggestions
abbrev pub is_there : List Text → Unit → Bool
is_there forms unit = texts_eq forms unit.forms || list_any (λ s. texts_eq forms s.forms) unit.suggestions

-- the caller suggested it, or votes as before; no vote is one too
abbrev pub is_same_vote : Text → Option VoteValue → Suggestion → Bool
is_same_vote caller value s = text_eq caller s.suggester || option_eq vote_eq value (maps.get s.votes caller)

-- nothing would change
abbrev pub is_same : Policy → Rule → Text → UnitView → UnitAction → Bool
is_same policy rule caller view (Suggest forms) = is_there forms view.unit
is_same policy rule caller view (Vote named value) = option_map_or (is_same_vote caller value) (suggestion_of named view.unit) false
is_same policy rule caller view (Accept named) = false
is_same policy rule caller view (Dismiss named) = false
is_same policy rule caller view (Translate forms) = texts_eq forms view.unit.forms && state_eq (state_of policy rule view forms) view.unit.state
is_same policy rule caller view (Comment lines) = texts_eq lines view.unit.comment
is_same policy rule caller view Approve = is_approved view.unit.state
is_same policy rule caller view SendBack = is_needs_editing view.unit.state

-- the unit or the forms are not fit for the act
abbrev pub is_unfit : Policy → Rule → UnitView → UnitAction → Bool
is_unfit policy rule view (Suggest forms) = all_empty forms
is_unfit policy rule view (Vote named value) = false
is_unfit policy rule view (Accept named) = false
is_unfit policy rule view (Dismiss named) = false
is_unfit policy rule view (Translate forms) = false
is_unfit policy rule view (Comment lines) = false
is_unfit policy rule view Approve = not (is_translated (state_of policy rule view view.unit.forms))
is_unfit policy rule view SendBack = is_untranslated view.unit.state

-- the last refusals, by what the act does
abbrev pub refusals_by_act : Policy → Rule → Text → Text → UnitView → UnitAction → List (Bool × Refusal)
refusals_by_act policy rule caller number view action =
    let unit = view.unit in
    (option_map_or (λ named. is_none (suggestion_of named unit)) (named_by action) false, NoSuggestion)
    ∷ (is_vote action && not policy.voting, VotingOff)
    ∷ (is_review action && not policy.reviews, ReviewsOff)
    ∷ (is_full caller unit action, IsFull)
    ∷ (is_same policy rule caller view action, IsSame)
    ∷ (is_unfit policy rule view action, IsUnfit)
    ∷ (nat_lt revision_limit (unit_after policy rule caller number view action).revision, PastLimit)
    ∷ []

-- the first refusals, which every act has, each with the test under which it applies; none looks at a suggestion
abbrev pub early_refusals : Policy → Rule → Role → UnitView → UnitAct → List (Bool × Refusal)
early_refusals policy rule role view act =
    let unit = view.unit in
    let action = act.action in
    (unit.obsolete, NoUnit)
    ∷ (is_below role (least_role policy action), BelowRole)
    ∷ (is_read_only view.source, IsReadOnly)
    ∷ (not (act.seen == unit.revision), IsStale)
    ∷ (edits action && is_approved unit.state && is_below role Reviewer, IsApproved)
    ∷ (option_map_or (λ forms. not (length forms == forms_needed rule unit.plural)) (forms_of action) false, PluralCount)
    ∷ []

-- the refusals in their order
unfoldable pub refusals : Policy → Rule → Role → Text → Text → UnitView → UnitAct → List (Bool × Refusal)
refusals policy rule role caller number view act =
    early_refusals policy rule role view act ++ refusals_by_act policy rule caller number view act.action

-- the first that applies
abbrev pub first_refusal : List (Bool × Refusal) → Option Refusal
first_refusal [] = None
first_refusal (t ∷ ts) = if t.0 then Some t.1 else first_refusal ts

-- refused by the first of these that applies; else the view with the unit after the act, and the reply's values
abbrev pub decision_by : List (Bool × Refusal) → Policy → Rule → Text → Text → UnitView → UnitAction → Decision
decision_by tests policy rule caller number view action =
    let unit = unit_after policy rule caller number view action in
    option_map_or Refused (first_refusal tests) (Done (record view { unit = unit }) (values_of policy caller number view unit action))

-- the first refusal that applies, or the new view and the reply's values
unfoldable pub unit_step : Policy → Rule → Role → Text → Text → UnitView → UnitAct → Decision
unit_step policy rule role caller number view act =
    decision_by (refusals policy rule role caller number view act) policy rule caller number view act.action

-- the same where none of the refusals applies that every act has
unfoldable pub decision_by_act : Policy → Rule → Text → Text → UnitView → UnitAction → Decision
decision_by_act policy rule caller number view action =
    decision_by (refusals_by_act policy rule caller number view action) policy rule caller number view action
