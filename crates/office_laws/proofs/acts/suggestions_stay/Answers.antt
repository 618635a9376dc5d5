use Rattle.std.proofs.Common.{◌≡◌, refl, ap, ◌∙◌}
use Rattle.plural_expr.specs.Values.{Rule}
use Rattle.po_text.specs.Texts.{Text}
use Rattle.units.specs.declared.unit.Policy.{Policy}
use Rattle.units.specs.declared.unit.UnitAction.{UnitAction}
use Rattle.units.specs.declared.unit.UnitAction.TheVariants.{Suggest, Vote, Accept, Dismiss, Translate, Comment, Approve, SendBack}
use Rattle.units.specs.declared.unit.UnitView.{UnitView}
use Rattle.review.specs.UnitStep.{unit_after}
use Rattle.office_laws.specs.Acts.{LeavesSuggestions}
use Rattle.office_laws.proofs.Decided.{decided}
use Rattle.office_laws.proofs.acts.suggestions_stay.Goals as goal

module _ (policy : Policy) (rule : Rule) (caller number : Text) (view : UnitView) where
  stay : (action : UnitAction) → LeavesSuggestions action → (unit_after policy rule caller number view action).suggestions ≡ view.unit.suggestions
  unfolding unit_after
  stay (Suggest forms) leaves = absurd leaves
  stay (Vote named value) leaves = absurd leaves
  stay (Accept named) leaves = absurd leaves
  stay (Dismiss named) leaves = absurd leaves
  stay (Translate forms) leaves = refl
  stay (Comment lines) leaves = refl
  stay Approve leaves = refl
  stay SendBack leaves = refl

pub returns : goal.returns
returns c = λ policy rule role caller number view after act values e leaves.
    let d = decided policy rule role caller number view after act values e in
    ap (λ (v : UnitView). v.unit.suggestions) d.left ∙ stay policy rule caller number view act.action leaves
