-- Units that are told to stay need no writing: where each of them is there, and no two units have one place, the others alone make of the units that are there
-- what all of them make.
use Rattle.std.proofs.Common.{◌≡◌, List, [], ◌∷◌, ◌++◌, Bool, true, false, cond, Some, None, refl, sym, ap, ◌∙◌, map}
use Rattle.std.specs.List.{flat_map, AllByRecursion, IsDistinct}
use Rattle.std.specs.Ordering.{eq_by_cmp}
use Rattle.std.specs.FinMap as maps
use Rattle.po_text.specs.Texts.{Text}
use Rattle.units.specs.Project.{Place, place_cmp, place_eq}
use Rattle.units.specs.Orders.{place_total, place_IsAntisymmetric}
use Rattle.units.specs.declared.unit.Unit.{Unit}
use Rattle.template_update.specs.Marks.{marked, unmarked}
use Rattle.office_specification.specs.ProjectActs.{LanguagePlan, placed}
use Rattle.office_specification.specs.OfficeChanges.{is_planned, staying}
use Rattle.office_specification.proofs.rules.Rebuilt.{equal_places}
use Rattle.sql_meaning.proofs.WrittenAnew.{or_else}
use Rattle.sql_changes.proofs.PlannedUnits.{Units, Entries, from_last, rows, changing}
use Rattle.sql_changes.proofs.PlansCover.{get-from_last}

-- The plans of a template over these units: each unit that is there has one in its language's plan, no two have one place, and each that is told to stay is there.
pub record PlansFollow (units : Units) (plans : List LanguagePlan) : Type 0 where
  pub named : (place : Place) → maps.contains_key units place ≡ true → is_planned plans place ≡ true
  pub apart : IsDistinct place_eq (map (λ e. e.0) (flat_map placed plans))
  pub still : AllByRecursion (λ e. maps.get units e.0 ≡ Some e.1) (flat_map staying plans)

-- a unit that is there already
put_again : (m : Units) (place : Place) (unit : Unit) → maps.get m place ≡ Some unit → maps.insert m place unit ≡ m
put_again m place unit there =
    maps.same_map place_total place_IsAntisymmetric _ _ (λ q. maps.get-insert place_total m place unit q ∙ by q (eq_by_cmp place_cmp q place) refl)
  where
    by : (q : Place) (tied : Bool) → eq_by_cmp place_cmp q place ≡ tied → cond tied (Some unit) (maps.get m q) ≡ maps.get m q
    by q true tied = sym (ap (maps.get m) (equal_places q place tied) ∙ there)
    by q false tied = refl

abbrev places : Entries → List Place
places es = map (λ e. e.0) es

not_found : (place : Place) (es : Entries) → AllByRecursion (λ other. place_eq place other ≡ false) (places es) → maps.find place_cmp place es ≡ None
not_found place [] apart = refl
not_found place (e ∷ es) apart = ap (λ tied. cond tied (Some e.1) (maps.find place_cmp place es)) apart.0 ∙ not_found place es apart.1

distinct_behind : (front back : Entries) → IsDistinct place_eq (places (front ++ back)) → IsDistinct place_eq (places back)
unfolding IsDistinct
distinct_behind [] back apart = apart
distinct_behind (e ∷ front) back apart = distinct_behind front back apart.1

all_in_front : {X : Type 0} (P : X → Type 0) (front back : List X) → AllByRecursion P (front ++ back) → AllByRecursion P front
all_in_front P [] back all = tt
all_in_front P (x ∷ front) back all = (all.0, all_in_front P front back all.1)

all_behind : {X : Type 0} (P : X → Type 0) (front back : List X) → AllByRecursion P (front ++ back) → AllByRecursion P back
all_behind P [] back all = all
all_behind P (x ∷ front) back all = all_behind P front back all.1

module _ (m : Units) where
  abbrev IsThere : Place × Unit → Type 0
  IsThere e = maps.get m e.0 ≡ Some e.1

  same_in_front : (front thin all : Entries) → from_last m thin ≡ from_last m all → from_last m (front ++ thin) ≡ from_last m (front ++ all)
  same_in_front [] thin all same = same
  same_in_front (e ∷ front) thin all same = ap (λ n. maps.insert n e.0 e.1) (same_in_front front thin all same)

  -- a language's units, in front of others of which those that stay are left out
  thinned_units : (lang : Text) (units : List Unit) (stays : List Bool) (thin all : Entries) → from_last m thin ≡ from_last m all → IsDistinct place_eq (places (rows lang units ++ all))
      → AllByRecursion IsThere (rows lang (marked units stays)) → from_last m (rows lang (unmarked units stays) ++ thin) ≡ from_last m (rows lang units ++ all)
  unfolding IsDistinct
  thinned_units lang [] stays thin all same apart still = same
  thinned_units lang (unit ∷ units) [] thin all same apart still = same_in_front (rows lang (unit ∷ units)) thin all same
  thinned_units lang (unit ∷ units) (false ∷ stays) thin all same apart still = ap (λ n. maps.insert n (lang, unit.key) unit) (thinned_units lang units stays thin all same apart.1 still)
  thinned_units lang (unit ∷ units) (true ∷ stays) thin all same apart still =
      let behind = rows lang units ++ all in
      let there : maps.get (from_last m behind) (lang, unit.key) ≡ Some unit =
      get-from_last m behind (lang, unit.key) ∙ ap (λ o. or_else o (maps.get m (lang, unit.key))) (not_found (lang, unit.key) behind apart.0) ∙ still.0 in
      thinned_units lang units stays thin all same apart.1 still.1 ∙ sym (put_again (from_last m behind) (lang, unit.key) unit there)

  pub thinned : (plans : List LanguagePlan) → IsDistinct place_eq (places (flat_map placed plans)) → AllByRecursion IsThere (flat_map staying plans)
      → from_last m (flat_map changing plans) ≡ from_last m (flat_map placed plans)
  thinned [] apart still = refl
  thinned (p ∷ more) apart still =
      thinned_units p.0 p.1.units p.1.stays (flat_map changing more) (flat_map placed more)
      (thinned more (distinct_behind (placed p) (flat_map placed more) apart) (all_behind IsThere (staying p) (flat_map staying more) still)) apart
      (all_in_front IsThere (staying p) (flat_map staying more) still)
