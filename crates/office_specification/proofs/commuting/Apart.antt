-- Acts on different units give the same project and the same replies in either order.
use Rattle.std.proofs.Common.{◌≡◌, Bool, true, false, cond, refl, sym, ◌∙◌, ap, Option, Some, None}
use Rattle.std.specs.Prelude.{option_map}
use Rattle.std.specs.FinMap as maps
use Rattle.std.specs.Cmp.{eq_by_cmp_equiv}
use Rattle.po_text.specs.Texts.{Text}
use Rattle.units.specs.Project.{Project, Place, place_cmp, place_eq, role_of, entry_of}
use Rattle.units.specs.Rules.{rule_at}
use Rattle.units.specs.declared.unit.Unit.{Unit}
use Rattle.units.specs.declared.unit.UnitAct.{UnitAct}
use Rattle.units.specs.declared.unit.UnitView.{UnitView}
use Rattle.units.specs.Orders.{place_total, place_IsAntisymmetric}
use Rattle.office_specification.specs.declared.values.ActContext.{ActContext}
use Rattle.office_specification.specs.declared.values.Outcome.{Outcome}
use Rattle.office_specification.specs.UnitAccess.{context_of, with_view}
use Rattle.office_specification.specs.UnitOutcomes.{outcome_of}
use Rattle.replies.specs.Bodies.{Stepped}
use Rattle.office_specification.specs.ProjectActs.{unit_act_step}
use Rattle.office_specification.proofs.acts.UnitActs.{unit_act_step-is, settled}

-- what another act finds is as it was
found_elsewhere : (project : Project) (place other : Place) (view : Option UnitView) (caller : Text) → place_eq other place ≡ false →
    context_of (with_view project place.0 place.1 view) other.0 other.1 caller ≡ context_of project other.0 other.1 caller
unfolding rule_at
found_elsewhere project place other None caller apart = refl
found_elsewhere project place other (Some v) caller apart =
    ap (λ (unit : Option Unit). option_map (λ header. record {
      rule = rule_at project other.0;
      policy = project.policy;
      role = role_of project caller;
      view = option_map (λ u. record { unit = u; source = entry_of project.template other.1 }) unit;
    }) (maps.get project.headers other.0))
    (maps.get-insert place_total project.units place v.unit other ∙ ap (λ c. cond c (Some v.unit) (maps.get project.units other)) apart)

-- changes of two units go in either order
swapped : {A : Type 0} (a b : Bool) (x y z : A) → (a ≡ true → b ≡ true → ⊥) → cond a x (cond b y z) ≡ cond b y (cond a x z)
swapped true true x y z apart = absurd (apart refl refl)
swapped true false x y z apart = refl
swapped false b x y z apart = refl

not_both : (place other q : Place) → place_eq other place ≡ false → place_eq q other ≡ true → place_eq q place ≡ true → ⊥
not_both place other q apart a b =
    let same = (eq_by_cmp_equiv place_total).congr q other place a in
    cc (same, b, apart)

inserted : (units : maps.FinMap place_cmp Unit) (place other : Place) (u v : Unit) → place_eq other place ≡ false →
    maps.insert (maps.insert units place u) other v ≡ maps.insert (maps.insert units other v) place u
inserted units place other u v apart = maps.same_map place_total place_IsAntisymmetric _ _ (λ q.
    maps.get-insert place_total (maps.insert units place u) other v q
    ∙ (ap (λ r. cond (place_eq q other) (Some v) r) (maps.get-insert place_total units place u q)
    ∙ (swapped (place_eq q other) (place_eq q place) (Some v) (Some u) (maps.get units q) (not_both place other q apart)
    ∙ sym (maps.get-insert place_total (maps.insert units other v) place u q ∙ ap (λ r. cond (place_eq q place) (Some u) r) (maps.get-insert place_total units other v q)))))

both_written : (project : Project) (place other : Place) (u v : Option UnitView) → place_eq other place ≡ false →
    with_view (with_view project place.0 place.1 u) other.0 other.1 v ≡ with_view (with_view project other.0 other.1 v) place.0 place.1 u
both_written project place other None v apart = refl
both_written project place other (Some u) None apart = refl
both_written project place other (Some u) (Some v) apart = ap (λ units. record project { units = units }) (inserted project.units place other u.unit v.unit apart)

abbrev outcome_at : Project → Text → Text → Place → UnitAct → Outcome
outcome_at project caller number place act = outcome_of (context_of project place.0 place.1 caller) caller number act

-- an act after one on another unit
after_other : (project : Project) (x y a b : Text) (place other : Place) (act action : UnitAct) → place_eq other place ≡ false →
    unit_act_step (unit_act_step project x a place act).0 y b other action
    ≡ (with_view (with_view project place.0 place.1 (outcome_at project x a place act).view) other.0 other.1 (outcome_at project y b other action).view, (outcome_at project y b other action).reply)
after_other project x y a b place other act action apart =
    let o : Project = with_view project place.0 place.1 (outcome_at project x a place act).view in
    ap (λ (s : Stepped Project). unit_act_step s.0 y b other action) (unit_act_step-is project x a place.0 place.1 act)
    ∙ (unit_act_step-is o y b other.0 other.1 action
    ∙ ap (λ (f : Option ActContext). settled o other.0 other.1 (outcome_of f y b action)) (found_elsewhere project place other (outcome_at project x a place act).view y apart))

-- the project and the replies of two acts on different units, in either order
pub either_order : (project : Project) (x y a b : Text) (place other : Place) (act action : UnitAct) → place_eq other place ≡ false → place_eq place other ≡ false →
    ((unit_act_step (unit_act_step project x a place act).0 y b other action).0 ≡ (unit_act_step (unit_act_step project y b other action).0 x a place act).0)
    × ((unit_act_step (unit_act_step project x a place act).0 y b other action).1 ≡ (unit_act_step project y b other action).1)
    × ((unit_act_step (unit_act_step project y b other action).0 x a place act).1 ≡ (unit_act_step project x a place act).1)
either_order project x y a b place other act action apart apart' =
    let one = after_other project x y a b place other act action apart in
    let two = after_other project y x b a other place action act apart' in (
      ap (λ (s : Stepped Project). s.0) one ∙ (both_written project place other (outcome_at project x a place act).view (outcome_at project y b other action).view apart ∙ sym (ap (λ (s : Stepped Project). s.0) two)),
      ap (λ (s : Stepped Project). s.1) one ∙ sym (ap (λ (s : Stepped Project). s.1) (unit_act_step-is project y b other.0 other.1 action)),
      ap (λ (s : Stepped Project). s.1) two ∙ sym (ap (λ (s : Stepped Project). s.1) (unit_act_step-is project x a place.0 place.1 act)),
    )
