-- What an act on an office makes of the counts of each language of each domain.
use Rattle.std.proofs.Common.{◌≡◌, List, [], Bool, true, false, cond, map, option_map, Option, Some, None, is_some, refl, sym, ◌∙◌, ap}
use Rattle.std.specs.Prelude.{flat_map, unwrap_or}
use Rattle.std.specs.List.{IsDistinct}
use Rattle.std.specs.Cmp.Lexicographic.{nat_list_eq_equiv}
use Rattle.std.specs.FinMap as maps
use Rattle.po_text.specs.declared.entry.Entry.{Entry}
use Rattle.po_text.specs.Texts.{Text, text_cmp, text_eq}
use Rattle.units.specs.Changes.{with_policy, office_under, with_domain}
use Rattle.units.specs.Office.{Office, Domain, empty_domain, same_domain, as_project, project_in, domain_of, with_project}
use Rattle.units.specs.Offices.{IsOffice}
use Rattle.units.specs.Orders.{text_total}
use Rattle.units.specs.Project.{Project, place_cmp, place_eq, units_of}
use Rattle.units.specs.declared.unit.Key.{Key}
use Rattle.units.specs.declared.unit.Policy.{Policy}
use Rattle.units.specs.declared.unit.Unit.{Unit}
use Rattle.units.specs.declared.unit.UnitView.{UnitView}
use Rattle.template_update.specs.declared.plans.Plan.{Plan}
use Rattle.office_specification.specs.ProjectActs.{LanguagePlan, placed, with_language, with_template}
use Rattle.office_specification.specs.UnitAccess.{with_view, with_view_in}
use Rattle.office_specification.proofs.domains.InDomains.{project_own, project_elsewhere, nothing_put, no_domain_yet, equal_domains}
use Rattle.office_specification.proofs.rules.DomainsKept.{any_project, get-under}
use Rattle.office_specification.specs.declared.tally.Tally.{Tally}
use Rattle.office_specification.specs.Tally.{counts_in, counts_of}
use Rattle.office_laws.specs.Tallies.{counted, moved, counts_under, planned}
use Rattle.office_laws.proofs.Moves.{with_view_moves, with_view_stays}
use Rattle.office_laws.proofs.ProjectCounts.{policy_counts, template_counts, language_counts, other_counts}

abbrev counts_at : Text → Project → Option Tally
counts_at lang project = counts_of project lang

-- a domain with nothing in it counts nothing
nothing_counted : (office : Office) (lang : Text) → counts_of (as_project office empty_domain) lang ≡ None
nothing_counted office lang = ap (option_map (λ (header : Entry). counts_in [] (units_of (as_project office empty_domain) lang))) (maps.get-empty text_cmp lang)

-- ---- a unit's new view

-- where a unit is, its domain is
domain_there : (office : Office) (domain lang : Text) (key : Key) (old : Unit) → maps.get (project_in office domain).units (lang, key) ≡ Some old → maps.contains_key office.domains domain ≡ true
domain_there office domain lang key old there = by (maps.get office.domains domain) there
  where
    by : (o : Option Domain) → maps.get (as_project office (unwrap_or o empty_domain)).units (lang, key) ≡ Some old → is_some o ≡ true
    by None e = let wrong : None ≡ Some old = sym (maps.get-empty place_cmp (lang, key)) ∙ e in cc
    by (Some d) e = refl

viewed : (office : Office) (domain lang : Text) (key : Key) (old : Unit) (view : UnitView) → maps.get (project_in office domain).units (lang, key) ≡ Some old
    → project_in (with_view_in office domain lang key (Some view)) domain ≡ with_view (project_in office domain) lang key (Some view)
viewed office domain lang key old view there =
    project_own office domain (with_view (project_in office domain) lang key (Some view)) (domain_there office domain lang key old there) (refl, refl)

pub unit_moves : (office : Office) (domain lang : Text) (key : Key) (old : Unit) (view : UnitView) → maps.get (project_in office domain).units (lang, key) ≡ Some old
    → counts_of (project_in (with_view_in office domain lang key (Some view)) domain) lang
    ≡ option_map (λ counts. moved counts (counted (project_in office domain).template old) (counted (project_in office domain).template view.unit)) (counts_of (project_in office domain) lang)
unit_moves office domain lang key old view there =
    ap (counts_at lang) (viewed office domain lang key old view there)
    ∙ with_view_moves (project_in office domain) lang key old view (nat_list_eq_equiv.refl lang) there

pub unit_stays : (office : Office) (domain lang other : Text) (key : Key) (old : Unit) (view : UnitView) → maps.get (project_in office domain).units (lang, key) ≡ Some old
    → text_eq other lang ≡ false → counts_of (project_in (with_view_in office domain lang key (Some view)) domain) other ≡ counts_of (project_in office domain) other
unit_stays office domain lang other key old view there differ =
    ap (counts_at other) (viewed office domain lang key old view there)
    ∙ with_view_stays (project_in office domain) lang other key old view differ there

-- a project put into a domain moves no counts of another
pub elsewhere_stays : (office : Office) (domain other : Text) (project : Project) (lang : Text) → same_domain other domain ≡ false
    → counts_of (project_in (with_project office domain project) other) lang ≡ counts_of (project_in office other) lang
elsewhere_stays office domain other project lang apart = ap (counts_at lang) (project_elsewhere office domain other project apart)

-- ---- a policy

abbrev under_it : Office → Policy → Domain → Domain
under_it office policy domain = domain_of (with_policy (as_project office domain) policy)

pub office_policy_counts : (office : Office) (policy : Policy) (domain lang : Text)
    → counts_of (project_in (office_under office policy) domain) lang ≡ option_map (counts_under policy) (counts_of (project_in office domain) lang)
office_policy_counts office policy domain lang =
    ap (λ o. counts_of (as_project (office_under office policy) (unwrap_or o empty_domain)) lang) (get-under office policy domain) ∙ by (maps.get office.domains domain)
  where
    by : (o : Option Domain) → counts_of (as_project (office_under office policy) (unwrap_or (option_map (under_it office policy) o) empty_domain)) lang
        ≡ option_map (counts_under policy) (counts_of (as_project office (unwrap_or o empty_domain)) lang)
    by None = nothing_counted (office_under office policy) lang ∙ sym (ap (option_map (counts_under policy)) (nothing_counted office lang))
    by (Some d) = policy_counts (as_project office d) policy lang

-- ---- a new domain

pub new_domain_counts : (office : Office) (domain other lang : Text) → maps.contains_key office.domains domain ≡ false
    → counts_of (project_in (with_domain office domain) other) lang ≡ counts_of (project_in office other) lang
new_domain_counts office domain other lang new =
    ap (λ o. counts_of (as_project office (unwrap_or o empty_domain)) lang) (maps.get-insert text_total office.domains domain empty_domain other)
    ∙ by (same_domain other domain) refl
  where
    by : (tie : Bool) → same_domain other domain ≡ tie → counts_of (as_project office (unwrap_or (cond tie (Some empty_domain) (maps.get office.domains other)) empty_domain)) lang
        ≡ counts_of (project_in office other) lang
    by true t = ap (counts_at lang) (sym (no_domain_yet office other (ap (maps.contains_key office.domains) (equal_domains other domain t) ∙ new)))
    by false t = refl

-- ---- a change of a domain

-- where it is there
changed_there : (office : Office) (domain : Text) (project : Project) → maps.contains_key office.domains domain ≡ true → project.team ≡ office.team → project.policy ≡ office.policy
    → (lang : Text) → counts_of (project_in (with_project office domain project) domain) lang ≡ counts_of project lang
changed_there office domain project there team policy lang = ap (counts_at lang) (project_own office domain project there (team, policy))

-- where it isn't
not_changed : (office : Office) (domain : Text) (project : Project) → maps.contains_key office.domains domain ≡ false
    → (lang : Text) → counts_of (project_in (with_project office domain project) domain) lang ≡ counts_of (project_in office domain) lang
not_changed office domain project missing lang = ap (λ (o : Office). counts_of (project_in o domain) lang) (nothing_put office domain project missing)

-- ---- a new language

module _ (office : Office) (rules : IsOffice office) (domain lang : Text) (header : Entry) (plan : Plan)
    (new : maps.contains_key (project_in office domain).headers lang ≡ false) (distinct : IsDistinct place_eq (map (λ e. e.0) (placed (lang, plan)))) where
  abbrev after : Project
  after = with_language (project_in office domain) lang header plan

  pub new_language_counts : maps.contains_key office.domains domain ≡ true → counts_of (project_in (with_project office domain after) domain) lang ≡ Some (counts_in (project_in office domain).template plan.units)
  new_language_counts there =
      changed_there office domain after there refl refl lang
      ∙ language_counts (project_in office domain) (any_project office rules domain) lang header plan new distinct

  pub other_languages_counts : (other : Text) → text_eq other lang ≡ false → counts_of (project_in (with_project office domain after) domain) other ≡ counts_of (project_in office domain) other
  other_languages_counts other apart = by (maps.contains_key office.domains domain) refl
    where
      by : (b : Bool) → maps.contains_key office.domains domain ≡ b → counts_of (project_in (with_project office domain after) domain) other ≡ counts_of (project_in office domain) other
      by true there =
          changed_there office domain after there refl refl other
          ∙ other_counts (project_in office domain) (any_project office rules domain) lang header plan new distinct other apart
      by false missing = not_changed office domain after missing other

-- ---- a new template

module _ (office : Office) (domain : Text) (template : List Entry) (plans : List LanguagePlan) (lang : Text) (distinct : IsDistinct place_eq (map (λ e. e.0) (flat_map placed plans))) where
  abbrev retemplated : Project
  retemplated = with_template (project_in office domain) template plans

  abbrev by_plans : Option Entry → Option Tally
  by_plans header = option_map (λ _. counts_in template (planned lang plans)) header

  pub new_template_counts : counts_of (project_in (with_project office domain retemplated) domain) lang ≡ by_plans (maps.get (project_in office domain).headers lang)
  new_template_counts = by (maps.contains_key office.domains domain) refl
    where
      no_header : maps.contains_key office.domains domain ≡ false → maps.get (project_in office domain).headers lang ≡ None
      no_header missing = ap (λ (p : Project). maps.get p.headers lang) (no_domain_yet office domain missing) ∙ maps.get-empty text_cmp lang

      by : (b : Bool) → maps.contains_key office.domains domain ≡ b → counts_of (project_in (with_project office domain retemplated) domain) lang ≡ by_plans (maps.get (project_in office domain).headers lang)
      by true there = changed_there office domain retemplated there refl refl lang ∙ template_counts (project_in office domain) template plans lang distinct
      by false missing =
          not_changed office domain retemplated missing lang
          ∙ (ap (counts_at lang) (no_domain_yet office domain missing) ∙ (nothing_counted office lang ∙ sym (ap by_plans (no_header missing))))
