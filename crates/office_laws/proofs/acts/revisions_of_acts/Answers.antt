use Rattle.std.proofs.Common.{◌≡◌, ◌+◌, Bool, true, false, cond, Option, Some, None, refl, sym, ap, ◌∙◌, arith}
use Rattle.std.specs.Prelude.{is_none, option_map}
use Rattle.std.specs.Option.{option_map_or}
use Rattle.plural_expr.specs.Values.{Rule}
use Rattle.po_text.specs.Texts.{Text}
use Rattle.units.specs.declared.unit.Policy.{Policy}
use Rattle.units.specs.declared.unit.Suggestion.{Suggestion}
use Rattle.units.specs.declared.unit.Unit.{Unit}
use Rattle.units.specs.declared.unit.UnitAction.{UnitAction}
use Rattle.units.specs.declared.unit.UnitAction.TheVariants.{Suggest, Vote, Accept, Dismiss, Translate, Comment, Approve, SendBack}
use Rattle.units.specs.declared.unit.UnitView.{UnitView}
use Rattle.units.specs.declared.votes.VoteValue.{VoteValue}
use Rattle.units.specs.Units.{suggestion_of, without_suggestion}
use Rattle.review.specs.declared.decision.Values.{Values}
use Rattle.review.specs.UnitStep.{unit_after, values_of, with_forms, with_accepted, with_vote, is_due}
use Rattle.review.proofs.Ballots.{with_votes, suggestion_of-with_vote}
use Rattle.office_laws.specs.Acts.{rise}
use Rattle.office_laws.proofs.Decided.{names_one, decided}
use Rattle.office_laws.proofs.acts.revisions_of_acts.Goals as goal

module _ (policy : Policy) (rule : Rule) (caller number : Text) (view : UnitView) where
  accepted : (v : UnitView) (named : Text) (o : Option Suggestion) → is_none o ≡ false
      → (option_map_or (λ s. without_suggestion named (with_forms policy rule v s.forms)) o v.unit).revision ≡ v.unit.revision + 1
  accepted v named None there = cc
  accepted v named (Some s) there = refl

  mapped : (caller : Text) (value : Option VoteValue) (o : Option Suggestion) → is_none (option_map (with_votes caller value) o) ≡ is_none o
  mapped caller value None = refl
  mapped caller value (Some s) = refl

  by_due : (named : Text) (value : Option VoteValue) → is_none (suggestion_of named view.unit) ≡ false → (due : Bool)
      → (cond due (with_accepted policy rule (record view { unit = with_vote named caller value view.unit }) named) (with_vote named caller value view.unit)).revision
      ≡ view.unit.revision + cond due 1 0
  by_due named value there true =
      let voted : Unit = with_vote named caller value view.unit in
      accepted (record view { unit = voted }) named (suggestion_of named voted)
      (ap is_none (suggestion_of-with_vote named caller value view.unit) ∙ mapped caller value (suggestion_of named view.unit) ∙ there)
  by_due named value there false = omega arith

  revision : (action : UnitAction) → names_one view action ≡ false
      → (unit_after policy rule caller number view action).revision
      ≡ view.unit.revision + rise action (values_of policy caller number view (unit_after policy rule caller number view action) action)
  unfolding unit_after
  revision (Suggest forms) there = omega arith
  revision (Vote named value) there = by_due named value there (is_due policy named (with_vote named caller value view.unit))
  revision (Accept named) there = accepted view named (suggestion_of named view.unit) there
  revision (Dismiss named) there = omega arith
  revision (Translate forms) there = refl
  revision (Comment lines) there = refl
  revision Approve there = refl
  revision SendBack there = refl

pub returns : goal.returns
returns c = λ policy rule role caller number view after act values e.
    let d = decided policy rule role caller number view after act values e in
    ap (λ (v : UnitView). v.unit.revision) d.left
    ∙ revision policy rule caller number view act.action d.named
    ∙ ap (λ (x : Values). view.unit.revision + rise act.action x) (sym d.told)
