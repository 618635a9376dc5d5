-- What an office tells a caller of a domain's language, apart from its units: it is found of a context, makes one with a unit's view, and stays where a
-- unit is written.
use Rattle.std.proofs.Common.{◌≡◌, Bool, true, false, Option, Some, None, is_some, refl, sym, ap, ◌∙◌, subst}
use Rattle.std.specs.Prelude.{IsSome, IfSome, option_map, unwrap_or}
use Rattle.std.specs.FinMap as maps
use Rattle.po_text.specs.Texts.{Text}
use Rattle.po_text.specs.declared.entry.Entry.{Entry}
use Rattle.units.specs.Office.{Office, same_domain, project_in, with_project}
use Rattle.units.specs.Project.{place_cmp, Project, role_of, view_of}
use Rattle.units.specs.Rules.{rule_at}
use Rattle.units.specs.declared.unit.Key.{Key}
use Rattle.units.specs.declared.unit.Unit.{Unit}
use Rattle.units.specs.declared.unit.UnitView.{UnitView}
use Rattle.review.specs.Parts.{bare}
use Rattle.office_specification.specs.UnitAccess.{context_of, with_view, without_suggestions, with_write_in, written_at}
use Rattle.office_specification.specs.declared.values.ActContext.{ActContext}
use Rattle.office_specification.specs.declared.values.UnitWrite.{UnitWrite}
use Rattle.office_specification.proofs.domains.InDomains.{HasShared, project_elsewhere, project_own, nothing_put, equal_domains}
use Rattle.store_sql.specs.declared.office_part.OfficePart.{OfficePart}
use Rattle.store_sql.specs.OfficeParts.{IsToldOf, IsPartOf, context_with, part_with}

-- ---- of a context

-- where the language is there, with this view
abbrev told_with : Project → Text → Text → Option UnitView → ActContext
told_with project lang name view = record { rule = rule_at project lang; policy = project.policy; role = role_of project name; view = view }

abbrev told_at : Project → Text → Text → Option UnitView → Option Entry → Option ActContext
told_at project lang name view header = option_map (λ _. told_with project lang name view) header

without_view : (project : Project) (lang name : Text) (view : Option UnitView) (header : Option Entry)
    → without_suggestions (told_at project lang name view header) ≡ told_at project lang name (option_map bare view) header
without_view project lang name view None = refl
without_view project lang name view (Some header) = refl

module _ (office : Office) (domain lang name : Text) where
  abbrev its_project : Project
  its_project = project_in office domain

  told_of : (view : Option UnitView) (header : Option Entry) → maps.get its_project.headers lang ≡ header → (part : OfficePart)
      → option_map (part_with domain lang name) (told_at its_project lang name view header) ≡ Some part → IsPartOf office part
  told_of view None at part is = absurd (let no : false ≡ true = ap is_some is in cc)
  told_of view (Some header) at part is =
      let first : OfficePart = part_with domain lang name (told_with its_project lang name view) in
      subst (IsPartOf office) (ap (λ (o : Option OfficePart). unwrap_or o first) is) (record { language = ap is_some at; rule = refl; policy = refl; role = refl })

  pub told_in_context : (key : Key) (found : Option ActContext) (part : OfficePart) → found ≡ context_of (project_in office domain) lang key name
      → option_map (part_with domain lang name) found ≡ Some part → IsPartOf office part
  told_in_context key found part is told =
      told_of (view_of its_project (lang, key)) (maps.get its_project.headers lang) refl part (subst (λ f. option_map (part_with domain lang name) f ≡ Some part) is told)

  pub told_without : (key : Key) (found : Option ActContext) (part : OfficePart) → found ≡ without_suggestions (context_of (project_in office domain) lang key name)
      → option_map (part_with domain lang name) found ≡ Some part → IsPartOf office part
  told_without key found part is told =
      told_of (option_map bare (view_of its_project (lang, key))) (maps.get its_project.headers lang) refl part
      (subst (λ f. option_map (part_with domain lang name) f ≡ Some part) (is ∙ without_view its_project lang name (view_of its_project (lang, key)) (maps.get its_project.headers lang)) told)

-- ---- with a unit's view

where_there : (told : ActContext) (header : Option Entry) → IsSome header → option_map (λ _. told) header ≡ Some told
where_there told None there = absurd (let no : false ≡ true = there in cc)
where_there told (Some header) there = refl

-- it is what an act needs to know
pub context_told : (project : Project) (key : Key) (part : OfficePart) → IsToldOf project part
    → context_of project part.lang key part.name ≡ Some (context_with part (view_of project (part.lang, key)))
context_told project key part it =
    let view : Option UnitView = view_of project (part.lang, key) in
    where_there (told_with project part.lang part.name view) (maps.get project.headers part.lang) it.language
    ∙ (λ i. Some (record { rule = sym it.rule i; policy = sym it.policy i; role = sym it.role i; view = view }))

-- ---- a unit is written

-- units tell nothing of it
told_apart : (project : Project) (units : maps.FinMap place_cmp Unit) (part : OfficePart) → IsToldOf project part → IsToldOf (record project { units = units }) part
unfolding rule_at
told_apart project units part it = record { language = it.language; rule = it.rule; policy = it.policy; role = it.role }

told_written : (project : Project) (lang : Text) (key : Key) (view : Option UnitView) (part : OfficePart) → IsToldOf project part → IsToldOf (with_view project lang key view) part
told_written project lang key None part it = it
told_written project lang key (Some v) part it = told_apart project (maps.insert project.units (lang, key) v.unit) part it

shared_still : (office : Office) (domain lang : Text) (key : Key) (view : Option UnitView) → HasShared office (with_view (project_in office domain) lang key view)
shared_still office domain lang key None = (refl, refl)
shared_still office domain lang key (Some v) = (refl, refl)

module _ (office : Office) (domain lang : Text) (key : Key) (view : Option UnitView) (part : OfficePart) (it : IsPartOf office part) where
  abbrev after : Project
  after = with_view (project_in office domain) lang key view

  told_after : IsPartOf (with_project office domain after) part
  told_after = by (same_domain part.domain domain) refl (maps.contains_key office.domains domain) refl
    where
      by : (same : Bool) → same_domain part.domain domain ≡ same → (there : Bool) → maps.contains_key office.domains domain ≡ there
          → IsPartOf (with_project office domain after) part
      by false apart there e = subst (λ (p : Project). IsToldOf p part) (sym (project_elsewhere office domain part.domain after apart)) it
      by true same false missing = subst (λ (o : Office). IsPartOf o part) (sym (nothing_put office domain after missing)) it
      by true same true there =
          let is : part.domain ≡ domain = equal_domains part.domain domain same in
          let own : IsToldOf (project_in office domain) part = subst (λ (d : Text). IsToldOf (project_in office d) part) is it in
          subst (λ (d : Text). IsToldOf (project_in (with_project office domain after) d) part) (sym is)
          (subst (λ (p : Project). IsToldOf p part) (sym (project_own office domain after there (shared_still office domain lang key view)))
          (told_written (project_in office domain) lang key view part own))

-- what is written of a unit leaves it as it is
pub told_still : (office : Office) (domain lang : Text) (key : Key) (write : Option UnitWrite) (part : Option OfficePart) → IfSome part (IsPartOf office)
    → IfSome part (IsPartOf (with_write_in office domain lang key write))
told_still office domain lang key write None it = it
told_still office domain lang key write (Some part) it = told_after office domain lang key (written_at (project_in office domain) lang key write) part it
