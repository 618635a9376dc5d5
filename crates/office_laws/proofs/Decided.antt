-- What is known of an act that was done: the unit after it, the reply's values, and that the suggestion that it names is there.
use Rattle.std.proofs.Common.{◌≡◌, Bool, true, false, cond, List, [], ◌∷◌, Option, Some, None, refl}
use Rattle.std.specs.Prelude.{is_none}
use Rattle.std.specs.Option.{option_map_or}
use Rattle.std.specs.List.{AllByRecursion}
use Rattle.plural_expr.specs.Values.{Rule}
use Rattle.po_text.specs.Texts.{Text}
use Rattle.units.specs.declared.unit.Policy.{Policy}
use Rattle.units.specs.declared.unit.Role.{Role}
use Rattle.units.specs.declared.unit.Refusal.{Refusal}
use Rattle.units.specs.declared.unit.UnitAct.{UnitAct}
use Rattle.units.specs.declared.unit.UnitAction.{UnitAction}
use Rattle.units.specs.declared.unit.UnitView.{UnitView}
use Rattle.units.specs.Units.{suggestion_of}
use Rattle.review.specs.declared.decision.Decision.TheVariants.{Done, Refused}
use Rattle.review.specs.declared.decision.Values.{Values}
use Rattle.review.specs.UnitStep.{unit_after, values_of, named_by, refusals, first_refusal, unit_step}

-- the suggestion that an act names, if it names one, is there
abbrev pub names_one : UnitView → UnitAction → Bool
names_one view action = option_map_or (λ named. is_none (suggestion_of named view.unit)) (named_by action) false

pub record IsDone (policy : Policy) (rule : Rule) (caller number : Text) (view after : UnitView) (action : UnitAction) (values : Values) : Type 0 where
  pub left : after ≡ record view { unit = unit_after policy rule caller number view action }
  pub told : values ≡ values_of policy caller number view (unit_after policy rule caller number view action) action
  pub named : names_one view action ≡ false

done_by : (refusal : Option Refusal) (a b : UnitView) (x y : Values) → option_map_or Refused refusal (Done a x) ≡ Done b y → (refusal ≡ None) × (b ≡ a) × (y ≡ x)
done_by None a b x y e = (refl, cc, cc)
done_by (Some why) a b x y e = cc

passed : (tests : List (Bool × Refusal)) → first_refusal tests ≡ None → AllByRecursion (λ t. t.0 ≡ false) tests
passed [] e = tt
passed (t ∷ tests) e = by (passed tests) t.0 refl e
  where
    by : (first_refusal tests ≡ None → AllByRecursion (λ t. t.0 ≡ false) tests) → (b : Bool) → t.0 ≡ b → cond b (Some t.1) (first_refusal tests) ≡ None
        → AllByRecursion (λ t. t.0 ≡ false) (t ∷ tests)
    by rest true is e = cc
    by rest false is e = (is, rest e)

module _ (policy : Policy) (rule : Rule) (role : Role) (caller number : Text) (view after : UnitView) (act : UnitAct) (values : Values) where
  there : first_refusal (refusals policy rule role caller number view act) ≡ None → names_one view act.action ≡ false
  unfolding refusals
  there none = (passed (refusals policy rule role caller number view act) none).1.1.1.1.1.1.0

  pub decided : unit_step policy rule role caller number view act ≡ Done after values → IsDone policy rule caller number view after act.action values
  unfolding unit_step
  decided e =
      let unit = unit_after policy rule caller number view act.action in
      let is = done_by (first_refusal (refusals policy rule role caller number view act)) (record view { unit = unit }) after (values_of policy caller number view unit act.action) values e in
      record { left = is.1; told = is.2; named = there is.0 }
