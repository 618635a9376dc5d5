-- A unit that a template's plan tells to stay as it was is the one that is there.
use Rattle.std.proofs.Common.{◌≡◌, List, [], ◌∷◌, Bool, true, false, Some, sym, ◌∙◌, subst, filter}
use Rattle.std.specs.Prelude.{flat_map}
use Rattle.std.specs.List.{AllByRecursion, AllZip}
use Rattle.std.specs.Cmp.Lexicographic.{same_text}
use Rattle.std.specs.FinMap as maps
use Rattle.po_text.specs.declared.entry.Entry.{Entry}
use Rattle.po_text.specs.Texts.{Text, text_eq}
use Rattle.units.specs.Orders.{place_total}
use Rattle.units.specs.Project.{Project, Place, place_cmp, languages, units_of}
use Rattle.units.specs.Projects.{IsProject}
use Rattle.units.specs.Rules.{rule_at}
use Rattle.units.specs.declared.unit.Unit.{Unit}
use Rattle.template_update.specs.declared.plans.Plan.{Plan}
use Rattle.template_update.specs.Marks.{marked}
use Rattle.template_update.specs.Updates.{plan_of}
use Rattle.template_update.proofs.Listed.{all_joined, all_kept, all_mapped}
use Rattle.office_specification.specs.ProjectActs.{LanguagePlan, plans}
use Rattle.office_specification.specs.OfficeChanges.{staying}
use Rattle.office_specification.proofs.acts.Possible.{KeepsEach}
use Rattle.office_specification.proofs.rules.PlanRows.{rows_in, all-rows}
use Rattle.office_specification.proofs.rules.Replaced.{all_rows}
use Rattle.office_specification.proofs.rules.TemplateKept.{IsPlanOf, zipped}

-- what holds of all holds of those that are marked
all_marked : {X : Type 0} (P : X → Type 0) (xs : List X) (marks : List Bool) → AllByRecursion P xs → AllByRecursion P (marked xs marks)
all_marked P [] marks h = tt
all_marked P (x ∷ xs) [] h = tt
all_marked P (x ∷ xs) (true ∷ marks) h = (h.0, all_marked P xs marks h.1)
all_marked P (x ∷ xs) (false ∷ marks) h = all_marked P xs marks h.1

module _ (project : Project) where
  -- the unit at this place
  abbrev IsThere : Place → Unit → Type 0
  IsThere place unit = maps.get project.units place ≡ Some unit

  abbrev IsPlaced : Place → Unit → Type 0
  IsPlaced place unit = (unit.key ≡ place.1) × IsThere place unit

  each_there : IsProject project → (lang : Text) → AllByRecursion (λ unit. IsThere (lang, unit.key) unit) (units_of project lang)
  each_there rules lang =
      all_mapped (λ unit. IsThere (lang, unit.key) unit) (λ (e : Place × Unit). e.1) (filter (λ e. text_eq lang e.0.0) (maps.entries project.units))
      (all_kept (λ (e : Place × Unit). text_eq lang e.0.0) (λ e. IsPlaced e.0 e.1) (λ e. IsThere (lang, e.1.key) e.1)
      (λ e own its. let same : lang ≡ e.0.0 = same_text lang e.0.0 (sym own) in (λ i. maps.get project.units (same i, its.0 i)) ∙ its.1) (maps.entries project.units)
      (all_rows place_cmp place_total IsPlaced (maps.entries project.units) (maps.entries_sorted project.units)
      (λ place unit found. let there : IsThere place unit = maps.get-entries project.units place ∙ found in ((rules.placed place unit there).0, there))))

  module _ (keeps : KeepsEach) (next : List Entry) (rules : IsProject project) where
    still_there : (lang : Text) (plan : Plan) → plan_of project.template (units_of project lang) next (rule_at project lang) ≡ Some plan
        → AllByRecursion (λ e. IsThere e.0 e.1) (rows_in lang (marked plan.units plan.stays))
    still_there lang plan is =
        let its = keeps project.template (units_of project lang) next (rule_at project lang) plan is in
        all-rows IsThere lang (marked plan.units plan.stays)
        (subst (AllByRecursion (λ unit. IsThere (lang, unit.key) unit)) (sym its.told) (all_marked (λ unit. IsThere (lang, unit.key) unit) (units_of project lang) plan.stays (each_there rules lang)))

    each_still : (langs : List Text) (all : List LanguagePlan) → AllZip (IsPlanOf project next) langs all → AllByRecursion (λ e. IsThere e.0 e.1) (flat_map staying all)
    each_still [] [] z = tt
    each_still [] (p ∷ all) z = absurd z
    each_still (lang ∷ langs) [] z = absurd z
    each_still (lang ∷ langs) (p ∷ all) z =
        all_joined (λ (e : Place × Unit). IsThere e.0 e.1) (staying p) (flat_map staying all)
        (subst (λ l. AllByRecursion (λ e. IsThere e.0 e.1) (rows_in l (marked p.1.units p.1.stays))) (sym z.0.same) (still_there lang p.1 z.0.plan)) (each_still langs all z.1)

pub stays_there : KeepsEach → (project : Project) (next : List Entry) (all : List LanguagePlan) → plans project next ≡ Some all → IsProject project
    → AllByRecursion (λ e. maps.get project.units e.0 ≡ Some e.1) (flat_map staying all)
stays_there keeps project next all planned rules = each_still project keeps next rules (languages project) all (zipped project next (languages project) all planned)
