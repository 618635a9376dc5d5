-- An office after a change. This project's own rule.
use Rattle.std.specs.Prelude.{◌≡◌, List, Bool, true, false, map, flat_map, Option, Some, ⊤, MatchOption}
use Rattle.std.specs.Option.{option_map_or}
use Rattle.std.specs.List.{list_any, AllByRecursion, IsDistinct}
use Rattle.std.specs.FinMap as maps
use Rattle.po_text.specs.Texts.{Text}
use Rattle.po_text.specs.declared.entry.Entry.{Entry}
use Rattle.units.specs.Project.{Project, Place, place_eq, languages}
use Rattle.units.specs.Projects.{IsProject}
use Rattle.units.specs.Office.{Office, project_in, with_project}
use Rattle.units.specs.Changes.{set_role, office_under, with_team, with_domain}
use Rattle.units.specs.declared.unit.Policy.{Policy}
use Rattle.template_update.specs.declared.plans.Plan.{Plan}
use Rattle.units.specs.declared.unit.Unit.{Unit}
use Rattle.template_update.specs.Marks.{marked}
use Rattle.office_specification.specs.ProjectActs.{LanguagePlan, placed, with_language, with_template}
use Rattle.office_specification.specs.OfficeActs.{passes}
use Rattle.office_specification.specs.Tally.{counts_in}
use Rattle.office_specification.specs.declared.values.Change.{Change}
use Rattle.office_specification.specs.declared.values.Change.TheVariants.{OneRole, NewPolicy, NewDomain, InDomain}
use Rattle.office_specification.specs.declared.values.DomainChange.{DomainChange}
use Rattle.office_specification.specs.declared.values.DomainChange.TheVariants.{NewLanguage, NewTemplate}
use Rattle.office_specification.specs.declared.tally.Tally.{Tally}

-- a project after a change of its domain
abbrev pub changed_project : Project → DomainChange → Project
changed_project project (NewLanguage lang language plan tally) = with_language project lang language.header plan
changed_project project (NewTemplate template plans tallies) = with_template project template plans.items

abbrev pub changed_project_by : Project → Option DomainChange → Project
changed_project_by project change = option_map_or (changed_project project) change project

abbrev pub changed : Office → Change → Office
changed office (OneRole name role) = with_team office (set_role name role office.team)
changed office (NewPolicy policy) = office_under office policy
changed office (NewDomain domain) = with_domain office domain
changed office (InDomain domain change) = with_project office domain (changed_project (project_in office domain) change)

abbrev pub changed_by : Office → Option Change → Office
changed_by office change = option_map_or (changed office) change office

-- no unit passes the last revision under a policy
abbrev pub AreWithin : Office → Policy → Type 0
AreWithin office policy = list_any (passes policy) (maps.values office.domains) ≡ false

-- what an office in memory asks of a change: under a policy no unit passes the last revision
abbrev pub StaysWithin : Office → Change → Type 0
StaysWithin office (OneRole name role) = ⊤
StaysWithin office (NewPolicy policy) = AreWithin office policy
StaysWithin office (NewDomain domain) = ⊤
StaysWithin office (InDomain domain change) = ⊤

-- A new language isn't there yet, and its tally counts its units. In a domain that keeps its rules no two of them have one place.
pub record MayCome (project : Project) (lang : Text) (plan : Plan) (tally : Tally) : Type 0 where
  pub new : maps.contains_key project.headers lang ≡ false
  pub tallied : tally ≡ counts_in project.template plan.units
  pub apart : IsProject project → IsDistinct place_eq (map (λ e. e.0) (placed (lang, plan)))

-- a plan has a unit for this place
abbrev pub is_planned : List LanguagePlan → Place → Bool
is_planned plans place = list_any (λ e. place_eq place e.0) (flat_map placed plans)

-- the units that a plan tells to stay as they were, at their places
abbrev pub staying : LanguagePlan → List (Place × Unit)
staying p = map (λ unit. ((p.0, unit.key), unit)) (marked p.1.units p.1.stays)

-- The plans of a template are one for each language, in their order, and so are the tallies, which count the plans' units under it. In a
-- domain that keeps its rules each unit that is there has one in its language's plan, none goes, no two have one place, and each that is told to stay as
-- it was is the one that is there.
pub record MayFollow (project : Project) (template : List Entry) (plans : List LanguagePlan) (tallies : List (Text × Tally)) : Type 0 where
  pub each : map (λ p. p.0) plans ≡ languages project
  pub tallied : tallies ≡ map (λ p. (p.0, counts_in template p.1.units)) plans
  pub apart : IsProject project → IsDistinct place_eq (map (λ e. e.0) (flat_map placed plans))
  pub none_goes : IsProject project → (place : Place) → maps.contains_key project.units place ≡ true → is_planned plans place ≡ true
  pub still : IsProject project → AllByRecursion (λ e. maps.get project.units e.0 ≡ Some e.1) (flat_map staying plans)

abbrev pub IsPossibleIn : Project → DomainChange → Type 0
IsPossibleIn project (NewLanguage lang language plan tally) = MayCome project lang plan tally
IsPossibleIn project (NewTemplate template plans tallies) = MayFollow project template plans.items tallies.items

abbrev pub IsPossibleChangeIn : Project → Option DomainChange → Type 0
IsPossibleChangeIn project change = MatchOption change ⊤ (IsPossibleIn project)

-- What a commit of a change asks: under a policy no unit passes the last revision, a new domain isn't there yet, and one that changes is.
abbrev pub IsPossible : Office → Change → Type 0
IsPossible office (OneRole name role) = ⊤
IsPossible office (NewPolicy policy) = AreWithin office policy
IsPossible office (NewDomain domain) = maps.contains_key office.domains domain ≡ false
IsPossible office (InDomain domain change) = (maps.contains_key office.domains domain ≡ true) × IsPossibleIn (project_in office domain) change

abbrev pub IsPossibleChange : Office → Option Change → Type 0
IsPossibleChange office change = MatchOption change ⊤ (IsPossible office)
