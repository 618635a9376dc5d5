-- What an act comes to, by its first refusal.
use Rattle.std.proofs.Common.{◌≡◌, ◌∙◌, Bool, true, false, List, [], ◌∷◌, ◌++◌, Option, Some, None, Result, Ok, Err, IfOk, ap, sym, refl, cond}
use Rattle.std.specs.Option.{option_map_or, option_or}
use Rattle.plural_expr.specs.Values.{Rule}
use Rattle.po_text.specs.Texts.{Text}
use Rattle.units.specs.declared.unit.Policy.{Policy}
use Rattle.units.specs.declared.unit.Role.{Role}
use Rattle.units.specs.declared.unit.Refusal.{Refusal}
use Rattle.units.specs.declared.unit.UnitView.{UnitView}
use Rattle.units.specs.declared.unit.UnitAct.{UnitAct}
use Rattle.review.specs.declared.decision.Decision.TheVariants.{Done, Refused}
use Rattle.review.specs.UnitStep.{unit_step, unit_after, values_of, refusals, early_refusals, refusals_by_act, first_refusal, decision_by_act}

-- what follows for a value where there is one
pub if_ok-follows : {X E : Type 0} (P Q : X → Type 0) (r : Result X E) → IfOk r P → ((x : X) → P x → Q x) → IfOk r Q
if_ok-follows P Q (Ok x) p follows = follows x p
if_ok-follows P Q (Err e) p follows = tt

-- the first refusal of two lists, by that of the first
pub first_of_both : (tests more : List (Bool × Refusal)) → first_refusal (tests ++ more) ≡ option_or (first_refusal tests) (first_refusal more)
first_of_both [] more = refl
first_of_both (t ∷ tests) more = by t.0 (first_of_both tests more)
  where
    by : (b : Bool) → first_refusal (tests ++ more) ≡ option_or (first_refusal tests) (first_refusal more) →
        cond b (Some t.1) (first_refusal (tests ++ more)) ≡ option_or (cond b (Some t.1) (first_refusal tests)) (first_refusal more)
    by true later = refl
    by false later = later

module _ (policy : Policy) (rule : Rule) (role : Role) (caller number : Text) (view : UnitView) (act : UnitAct) where
  -- an act is refused by its first refusal
  pub unit_step-refused : (refusal : Refusal) → first_refusal (refusals policy rule role caller number view act) ≡ Some refusal →
      Refused refusal ≡ unit_step policy rule role caller number view act
  unfolding unit_step
  unit_step-refused refusal first =
      let unit = unit_after policy rule caller number view act.action in
      sym (ap (λ (o : Option Refusal). option_map_or Refused o (Done (record view { unit = unit }) (values_of policy caller number view unit act.action))) first)

  -- where none of the refusals applies that every act has, it comes to what the act itself says
  pub unit_step-by_act : first_refusal (refusals policy rule role caller number view act) ≡ first_refusal (refusals_by_act policy rule caller number view act.action) →
      decision_by_act policy rule caller number view act.action ≡ unit_step policy rule role caller number view act
  unfolding unit_step decision_by_act
  unit_step-by_act rest =
      let unit = unit_after policy rule caller number view act.action in
      sym (ap (λ (o : Option Refusal). option_map_or Refused o (Done (record view { unit = unit }) (values_of policy caller number view unit act.action))) rest)

  -- it is refused by the first of those that every act has, if one of these applies
  pub unit_step-early : (refusal : Refusal) → first_refusal (early_refusals policy rule role view act) ≡ Some refusal →
      unit_step policy rule role caller number view act ≡ Refused refusal
  unfolding refusals
  unit_step-early refusal first =
      sym (unit_step-refused refusal (first_of_both (early_refusals policy rule role view act) (refusals_by_act policy rule caller number view act.action)
      ∙ ap (λ (o : Option Refusal). option_or o (first_refusal (refusals_by_act policy rule caller number view act.action))) first))

  pub unit_step-late : first_refusal (early_refusals policy rule role view act) ≡ None →
      decision_by_act policy rule caller number view act.action ≡ unit_step policy rule role caller number view act
  unfolding refusals
  unit_step-late none =
      unit_step-by_act (first_of_both (early_refusals policy rule role view act) (refusals_by_act policy rule caller number view act.action)
      ∙ ap (λ (o : Option Refusal). option_or o (first_refusal (refusals_by_act policy rule caller number view act.action))) none)
