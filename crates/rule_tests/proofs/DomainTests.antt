-- What the tests of an office's domains tell.
use Rattle.std.proofs.Common.{◌≡◌, ◌≤◌, Bool, true, ◌&&◌, List, Option, Some, None, is_some, refl, ap, subst}
use Rattle.std.specs.Prelude.{IsSome, String, string_bytes, unwrap_or, nat_le}
use Rattle.std.specs.Bool.{Decides}
use Rattle.std.specs.List.{AllByRecursion}
use Rattle.std.specs.BTreeMap.{IsOrdered}
use Rattle.std.specs.FinMap as maps
use Rattle.std.proofs.lemmas.Bool.Decides.{Decides-at, Decides-like}
use Rattle.po_text.specs.Texts.{Text, text_cmp}
use Rattle.units.specs.Limits.{domain_limit}
use Rattle.units.specs.Office.{Office, Domain, main, empty_domain, as_project}
use Rattle.units.specs.Offices.{IsOffice}
use Rattle.units.specs.Projects.{IsProject}
use Rattle.units.specs.Orders.{text_total, text_IsAntisymmetric}
use Rattle.office_maps.specs.declared.domain_maps.DomainMaps.{DomainMaps}
use Rattle.office_maps.specs.declared.office_maps.OfficeMaps.{OfficeMaps}
use Rattle.office_maps.specs.OfficeIn.{domain_in, office_in}
use Rattle.rule_tests.specs.Given.{AreAll, AreAllLangs}
use Rattle.rule_tests.specs.Parts.{AreProjects}
use Rattle.rule_tests.proofs.MapRows.{each_found, found_each}
use Rattle.rule_tests.proofs.Tests.{IsLeft, three_tell}
use Rattle.rule_tests.proofs.UnitTests.{Decides-le}

-- ---- each domain

abbrev pub IsRow : {A : Type 0} → Office → String A × DomainMaps → Type 0
IsRow office e = IsProject (as_project office (domain_in e.1))

abbrev pub IsListed : {A : Type 0} → List Text → String A × DomainMaps → Type 0
IsListed langs e = AreAll (domain_in e.1).headers langs

-- the rows that are left, whose languages are listed
pub record AreLeft {A : Type 0} (office : Office) (langs : List Text) (rest all : List (String A × DomainMaps)) : Type 0 where
  pub left : IsLeft (IsRow office) rest all
  pub listed : AllByRecursion (IsListed langs) rest

pub rows_listed : (t : OfficeMaps) (langs : List Text) → IsOrdered (λ x y. text_cmp (string_bytes x) (string_bytes y)) t.domains → AreAllLangs (office_in t) langs → AllByRecursion (IsListed langs) t.domains.entries
rows_listed t langs ordered all =
    found_each text_total text_IsAntisymmetric string_bytes domain_in (λ name domain. AreAll domain.headers langs) t.domains ordered
    (λ name domain is. subst (λ (d : Domain). AreAll d.headers langs) (ap (λ (o : Option Domain). unwrap_or o empty_domain) is) (all name))

projects_of : (office : Office) → ((name : Text) (domain : Domain) → maps.get office.domains name ≡ Some domain → IsProject (as_project office domain)) → AreProjects office
projects_of office each name there = found (maps.get office.domains name) refl there
  where
    found : (o : Option Domain) → maps.get office.domains name ≡ o → is_some o ≡ true → IsProject (as_project office (unwrap_or o empty_domain))
    found None is some = cc
    found (Some domain) is some = each name domain is

of_projects : (office : Office) → AreProjects office → (name : Text) (domain : Domain) → maps.get office.domains name ≡ Some domain → IsProject (as_project office domain)
of_projects office all name domain is = subst IsProject (ap (λ (o : Option Domain). as_project office (unwrap_or o empty_domain)) is) (all name (ap is_some is))

pub all_projects : (t : OfficeMaps) (b : Bool) → IsOrdered (λ x y. text_cmp (string_bytes x) (string_bytes y)) t.domains → Decides b (AllByRecursion (IsRow (office_in t)) t.domains.entries) →
    Decides b (AreProjects (office_in t))
all_projects t b ordered tells =
    Decides-like b
    (λ rows. projects_of (office_in t) (each_found text_total text_IsAntisymmetric string_bytes domain_in (λ name domain. IsProject (as_project (office_in t) domain)) t.domains rows))
    (λ all. found_each text_total text_IsAntisymmetric string_bytes domain_in (λ name domain. IsProject (as_project (office_in t) domain)) t.domains ordered (of_projects (office_in t) all))
    tells

-- ---- all of it

pub office_told : (office : Office) (r a b c : Bool) → r ≡ (a && (b && c)) → a ≡ maps.contains_key office.domains main → b ≡ nat_le (maps.len office.domains) domain_limit → Decides c (AreProjects office) →
    Decides r (IsOffice office)
office_told office r a b c e there few projects =
    three_tell {P = IsSome (maps.get office.domains main)} {Q = maps.len office.domains ≤ domain_limit} {R = AreProjects office} r a b c e
    (λ h. record { has_main = h.0; few_domains = h.1.0; projects = h.1.1 }) (λ h. (h.has_main, (h.few_domains, h.projects)))
    (Decides-at a (maps.contains_key office.domains main) there (λ h. h, λ h. h))
    (Decides-at b (nat_le (maps.len office.domains) domain_limit) few (Decides-le (maps.len office.domains) domain_limit))
    projects
