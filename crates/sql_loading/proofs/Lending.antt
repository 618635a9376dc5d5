-- An office that lends a project as one of its domains, and what is made of it.
use Rattle.std.proofs.Common.{◌≡◌, Bool, true, false, cond, Option, Some, is_some, refl, sym, ap, ◌∙◌}
use Rattle.std.specs.Prelude.{unwrap_or}
use Rattle.std.specs.FinMap as maps
use Rattle.po_text.specs.Texts.{Text, text_cmp}
use Rattle.units.specs.Project.{Project}
use Rattle.units.specs.Office.{Office, Domain, empty_domain, same_domain, as_project, project_in, domain_of, with_project}
use Rattle.units.specs.Orders.{text_total, text_IsAntisymmetric}
use Rattle.office_specification.proofs.domains.InDomains.{its_own_domain}
use Rattle.sql_loading.specs.DomainChanged.{lending}

-- of two that are put in under one name the last stays
pub put_twice : (m : maps.FinMap text_cmp Domain) (name : Text) (u v : Domain) → maps.insert (maps.insert m name u) name v ≡ maps.insert m name v
put_twice m name u v = maps.same_map text_total text_IsAntisymmetric _ _ (λ q.
    maps.get-insert text_total (maps.insert m name u) name v q
    ∙ (ap (cond (same_domain q name) (Some v)) (maps.get-insert text_total m name u q) ∙ (by (same_domain q name) (maps.get m q) ∙ sym (maps.get-insert text_total m name v q))))
  where
    by : (tie : Bool) (o : Option Domain) → cond tie (Some v) (cond tie (Some u) o) ≡ cond tie (Some v) o
    by true o = refl
    by false o = refl

module _ (base : Office) (domain : Text) (project : Project) where
  abbrev lent : Office
  lent = lending base domain project

  get_own : maps.get lent.domains domain ≡ Some (domain_of project)
  get_own =
      maps.get-insert text_total base.domains domain (domain_of project) domain
      ∙ ap (λ c. cond c (Some (domain_of project)) (maps.get base.domains domain)) (its_own_domain domain)

  its_project : project_in lent domain ≡ project
  its_project = ap (λ (o : Option Domain). as_project lent (unwrap_or o empty_domain)) get_own

  put_own : (new : Project) → (with_project lent domain new).domains ≡ maps.insert base.domains domain (domain_of new)
  put_own new =
      ap (λ c. cond c (maps.insert lent.domains domain (domain_of new)) lent.domains) (ap is_some get_own)
      ∙ put_twice base.domains domain (domain_of project) (domain_of new)

  -- what is made of the domain is made of the project; team and policy stay
  pub made_in : (office : Office) (own : Text) (next : Project → Project) → office ≡ lent → own ≡ domain → (next project).team ≡ project.team → (next project).policy ≡ project.policy
      → with_project office own (next (project_in office own)) ≡ lending base domain (next project)
  made_in office own next is named team policy =
      (λ i. with_project (is i) (named i) (next (project_in (is i) (named i))))
      ∙ (ap (λ (p : Project). with_project lent domain (next p)) its_project
      ∙ (λ i. record { domains = put_own (next project) i; team = sym team i; policy = sym policy i }))
