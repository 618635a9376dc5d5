-- What rules an office keeps, each of its domains keeps alone.
use Rattle.std.proofs.Common.{◌≡◌, ◌≤◌, Bool, true, false, Some, None, sym, ap, subst, ◌∙◌, refl, arith}
use Rattle.std.specs.Prelude.{IsTrue}
use Rattle.std.specs.FinMap as maps
use Rattle.std.specs.List.{IsDistinct}
use Rattle.po_text.specs.Texts.{Text, text_cmp, text_eq}
use Rattle.units.specs.Limits.{domain_limit}
use Rattle.units.specs.Orders.{text_total}
use Rattle.units.specs.Office.{Domain, Office, main, same_domain, has_domain, project_in, domain_of, with_project}
use Rattle.units.specs.Offices.{IsOffice}
use Rattle.units.specs.Project.{Project, Place, place_cmp}
use Rattle.units.specs.Projects.{IsProject}
use Rattle.units.specs.declared.unit.Unit.{Unit}
use Rattle.request_book.specs.Book.{Book}
use Rattle.office_specification.specs.MainAlone.{main_alone}
use Rattle.office_specification.specs.OfficeRules.{numbers_in, KeepsRules}
use Rattle.office_specification.proofs.domains.InDomains.{HasShared, contains-put_there, equal_domains, its_own_domain, project_own}
use Rattle.office_specification.proofs.domains.MainAlone.{has-main, in-main, in-another, numbers-main}
use Rattle.office_specification.proofs.rules.DomainNumbers.{numbers_there}
use Rattle.office_specification.proofs.rules.Numbering.{own_from}

-- ---- an office whose one domain is `main`

module _ (project : Project) where
  one_domain : maps.len (main_alone project).domains ≡ 1
  one_domain = rw (maps.len-insert text_total maps.empty main (domain_of project), maps.get-empty text_cmp main, maps.len-empty text_cmp Domain) refl

  -- a domain that is there is `main`
  there_is_main : (name : Text) → maps.contains_key (main_alone project).domains name ≡ true → project_in (main_alone project) name ≡ project
  there_is_main name there = ap (project_in (main_alone project)) (equal_domains name main (sym (has-main project name) ∙ there)) ∙ in-main project

  office_rules : IsProject project → IsOffice (main_alone project)
  office_rules rules = record {
    has_main = has-main project main ∙ its_own_domain main;
    few_domains = subst (λ n. n ≤ domain_limit) (sym one_domain) (omega arith);
    projects = λ name there. subst IsProject (sym (there_is_main name there)) rules;
  }

  -- a unit of any domain is one of the project
  unit_there : (name : Text) (place : Place) (unit : Unit) → maps.get (project_in (main_alone project) name).units place ≡ Some unit → maps.get project.units place ≡ Some unit
  unit_there name place unit is = by (same_domain name main) refl
    where
      by : (tie : Bool) → same_domain name main ≡ tie → maps.get project.units place ≡ Some unit
      by true tied = ap (λ (p : Project). maps.get p.units place) (sym (there_is_main name (has-main project name ∙ tied))) ∙ is
      by false apart =
          let nothing : maps.get (project_in (main_alone project) name).units place ≡ None =
          ap (λ (p : Project). maps.get p.units place) (in-another project name apart) ∙ maps.get-empty place_cmp place in
          let wrong : None ≡ Some unit = sym nothing ∙ is in
          cc

-- ---- one of the domains of an office

module _ (office : Office) (book : Book) (domain : Text) where
  -- the numbers of one domain are some of the office's
  own_numbers : KeepsRules (record { office = office; book = book }) → IsDistinct text_eq (numbers_in (domain_of (project_in office domain)))
  own_numbers rules = subst (IsDistinct text_eq) (numbers_there office domain) ((own_from text_cmp text_total numbers_in office.domains rules.own_numbers).each domain)

  pub rules_of_one : KeepsRules (record { office = office; book = book }) → IsTrue (has_domain office domain) → KeepsRules (record { office = main_alone (project_in office domain); book = book })
  rules_of_one rules there = record {
    office = office_rules (project_in office domain) (rules.office.projects domain there);
    recorded = λ name place unit is. rules.recorded domain place unit (unit_there (project_in office domain) name place unit is);
    own_numbers = subst (IsDistinct text_eq) (sym (numbers-main (project_in office domain))) (own_numbers rules);
    statuses = rules.statuses;
  }

-- so does a project that is put into one
pub rules_of_put : (office : Office) (book : Book) (domain : Text) (project : Project) → IsTrue (has_domain office domain) → HasShared office project
    → KeepsRules (record { office = with_project office domain project; book = book }) → KeepsRules (record { office = main_alone project; book = book })
rules_of_put office book domain project there shared rules =
    subst (λ (p : Project). KeepsRules (record { office = main_alone p; book = book })) (project_own office domain project there shared)
    (rules_of_one (with_project office domain project) book domain rules (contains-put_there office.domains domain (domain_of project) domain ∙ there))
