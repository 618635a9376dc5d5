use Rattle.std.proofs.Common.{◌≡◌, Bool, true, false, cond, ◌∷◌, ◌++◌, map, filter, not, Option, Some, None, refl, sym, ap, subst, ◌∙◌}
use Rattle.std.specs.Prelude.{is_none, option_map}
use Rattle.std.specs.List.{IsDistinct}
use Rattle.std.specs.Cmp.Lexicographic.{nat_list_eq_equiv}
use Rattle.std.specs.Option.{option_map_or}
use Rattle.std.proofs.lemmas.List.{map-append}
use Rattle.plural_expr.specs.Values.{Rule}
use Rattle.po_text.specs.Texts.{Text, text_eq}
use Rattle.units.specs.declared.unit.Policy.{Policy}
use Rattle.units.specs.declared.unit.Suggestion.{Suggestion}
use Rattle.units.specs.declared.unit.Unit.{Unit}
use Rattle.units.specs.declared.unit.UnitAction.{UnitAction}
use Rattle.units.specs.declared.unit.UnitAction.TheVariants.{Suggest, Vote, Accept, Dismiss, Translate, Comment, Approve, SendBack}
use Rattle.units.specs.declared.unit.UnitView.{UnitView}
use Rattle.units.specs.declared.votes.VoteValue.{VoteValue}
use Rattle.units.specs.Units.{has_number, suggestion_of, without_suggestion}
use Rattle.review.specs.UnitStep.{unit_after, values_of, with_forms, with_accepted, with_vote, is_due}
use Rattle.review.proofs.Ballots.{with_votes, suggestion_of-with_vote}
use Rattle.office_laws.specs.Acts.{accepted_by, IsTaken}
use Rattle.office_laws.proofs.Decided.{names_one, decided}
use Rattle.office_laws.proofs.Suggestions.{among, one_goes, all_same}
use Rattle.office_laws.proofs.acts.acceptance_takes_one.Goals as goal

numbered : (named : Text) (s : Suggestion) → s.number ≡ named → has_number named s ≡ true
numbered named s is = subst (λ m. text_eq named m ≡ true) (sym is) (nat_list_eq_equiv.refl named)

module _ (policy : Policy) (rule : Rule) (caller number : Text) (view : UnitView) where
  taken : (named : Text) (o : Option Suggestion) → suggestion_of named view.unit ≡ o → is_none o ≡ false
      → IsDistinct text_eq (map (λ s. s.number) view.unit.suggestions)
      → IsTaken named view.unit (option_map_or (λ s. without_suggestion named (with_forms policy rule view s.forms)) o view.unit)
  taken named None found there apart = cc
  taken named (Some s) found there apart =
      let a = among named view.unit.suggestions s found apart in
      record {
        front = a.front;
        suggestion = s;
        back = a.back;
        were = a.whole;
        number = a.number;
        left = ap (filter (λ x. not (has_number named x))) a.whole ∙ one_goes named a.front s a.back (numbered named s a.number) a.before a.behind;
        forms = refl;
      }

  module _ (named : Text) (value : Option VoteValue) where
    voted : Suggestion → Suggestion
    voted s = cond (has_number named s) (with_votes caller value s) s

    same_number : (b : Bool) (s : Suggestion) → (cond b (with_votes caller value s) s).number ≡ s.number
    same_number true s = refl
    same_number false s = refl

    taken_by_vote : (o : Option Suggestion) → suggestion_of named view.unit ≡ o → is_none o ≡ false
        → IsDistinct text_eq (map (λ s. s.number) view.unit.suggestions)
        → IsTaken named view.unit (with_accepted policy rule (record view { unit = with_vote named caller value view.unit }) named)
    unfolding voted
    taken_by_vote None found there apart = cc
    taken_by_vote (Some s) found there apart =
        let a = among named view.unit.suggestions s found apart in
        let unit : Unit = with_vote named caller value view.unit in
        let kept : suggestion_of named unit ≡ Some (with_votes caller value s) = suggestion_of-with_vote named caller value view.unit ∙ ap (option_map (with_votes caller value)) found in
        let list : unit.suggestions ≡ a.front ++ voted s ∷ a.back =
        ap (map voted) a.whole ∙ map-append voted a.front (s ∷ a.back)
        ∙ (λ i. all_same named (with_votes caller value) a.front a.before i ++ voted s ∷ all_same named (with_votes caller value) a.back a.behind i) in
        subst (λ (o : Option Suggestion). IsTaken named view.unit (option_map_or (λ t. without_suggestion named (with_forms policy rule (record view { unit = unit }) t.forms)) o unit)) (sym kept)
        (record {
          front = a.front;
          suggestion = s;
          back = a.back;
          were = a.whole;
          number = a.number;
          left = ap (filter (λ x. not (has_number named x))) list
              ∙ one_goes named a.front (voted s) a.back (numbered named (voted s) (same_number (has_number named s) s ∙ a.number)) a.before a.behind;
          forms = refl;
        })

  by_due : (n named : Text) (value : Option VoteValue) → is_none (suggestion_of n view.unit) ≡ false
      → IsDistinct text_eq (map (λ s. s.number) view.unit.suggestions)
      → (due : Bool) → cond due (Some n) None ≡ Some named
      → IsTaken named view.unit (cond due (with_accepted policy rule (record view { unit = with_vote n caller value view.unit }) n) (with_vote n caller value view.unit))
  by_due n named value there apart true is =
      let same : n ≡ named = cc in
      subst (λ (m : Text). IsTaken m view.unit (with_accepted policy rule (record view { unit = with_vote n caller value view.unit }) n)) same
      (taken_by_vote n value (suggestion_of n view.unit) refl there apart)
  by_due n named value there apart false is = cc

  by_action : (action : UnitAction) (named : Text) → names_one view action ≡ false
      → accepted_by action (values_of policy caller number view (unit_after policy rule caller number view action) action) ≡ Some named
      → IsDistinct text_eq (map (λ s. s.number) view.unit.suggestions) → IsTaken named view.unit (unit_after policy rule caller number view action)
  unfolding unit_after
  by_action (Suggest forms) named there is apart = cc
  by_action (Vote n value) named there is apart = by_due n named value there apart (is_due policy n (with_vote n caller value view.unit)) is
  by_action (Accept n) named there is apart =
      let same : n ≡ named = cc in
      subst (λ (m : Text). IsTaken m view.unit (with_accepted policy rule view n)) same (taken n (suggestion_of n view.unit) refl there apart)
  by_action (Dismiss n) named there is apart = cc
  by_action (Translate forms) named there is apart = cc
  by_action (Comment lines) named there is apart = cc
  by_action Approve named there is apart = cc
  by_action SendBack named there is apart = cc

pub returns : goal.returns
returns c = λ policy rule role caller number named view after act values e is apart.
    let d = decided policy rule role caller number view after act values e in
    subst (λ (v : UnitView). IsTaken named view.unit v.unit) (sym d.left)
    (by_action policy rule caller number view act.action named d.named (ap (accepted_by act.action) (sym d.told) ∙ is) apart)
