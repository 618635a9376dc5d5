-- What is read of an office whose one domain is `main`, and what changes make of it: what is read of its project, and what they make of that.
use Rattle.std.proofs.Common.{◌≡◌, List, [], ◌∷◌, Bool, true, false, cond, Option, Some, None, is_some, refl, sym, ap, ◌∙◌, map, append-nil}
use Rattle.std.specs.Prelude.{unwrap_or, option_map, flat_map}
use Rattle.std.specs.FinMap as maps
use Rattle.po_text.specs.declared.entry.Entry.{Entry}
use Rattle.po_text.specs.Texts.{Text, text_cmp}
use Rattle.units.specs.Project.{Project, role_of, view_of}
use Rattle.units.specs.Office.{Domain, main, empty_domain, same_domain, as_project, project_in, domain_of, with_project}
use Rattle.units.specs.Rules.{rule_at}
use Rattle.units.specs.Changes.{with_policy, office_under, with_team}
use Rattle.units.specs.declared.unit.Key.{Key}
use Rattle.units.specs.declared.unit.Policy.{Policy}
use Rattle.units.specs.declared.unit.Role.{Role}
use Rattle.units.specs.Orders.{text_total, text_IsAntisymmetric}
use Rattle.office_specification.specs.MainAlone.{main_alone}
use Rattle.office_specification.specs.OfficeRules.{numbers_in, all_numbers}
use Rattle.office_specification.specs.UnitAccess.{context_of}
use Rattle.office_specification.proofs.domains.InDomains.{put_there, get-put_there, its_own_domain, nothing_put, no_domain_yet}
use Rattle.office_specification.proofs.rules.DomainNumbers.{no_entries}

get-main : (project : Project) (name : Text) → maps.get (main_alone project).domains name ≡ cond (same_domain name main) (Some (domain_of project)) None
get-main project name = maps.get-insert text_total maps.empty main (domain_of project) name ∙ ap (λ g. cond (same_domain name main) (Some (domain_of project)) g) (maps.get-empty text_cmp name)

-- ---- what is read

pub has-main : (project : Project) (name : Text) → maps.contains_key (main_alone project).domains name ≡ same_domain name main
has-main project name = ap is_some (get-main project name) ∙ by (same_domain name main)
  where
    by : (tie : Bool) → is_some (cond tie (Some (domain_of project)) None) ≡ tie
    by true = refl
    by false = refl

pub in-main : (project : Project) → project_in (main_alone project) main ≡ project
in-main project =
    ap (λ (o : Option Domain). as_project (main_alone project) (unwrap_or o empty_domain)) (get-main project main)
    ∙ ap (λ c. as_project (main_alone project) (unwrap_or (cond c (Some (domain_of project)) None) empty_domain)) (its_own_domain main)

pub in-another : (project : Project) (name : Text) → same_domain name main ≡ false → project_in (main_alone project) name ≡ as_project (main_alone project) empty_domain
in-another project name apart = no_domain_yet (main_alone project) name (has-main project name ∙ apart)

-- a unit act finds what it finds in the project, or in another domain nothing
pub found-main : (project : Project) (lang : Text) (key : Key) (name : Text) → context_of (project_in (main_alone project) main) lang key name ≡ context_of project lang key name
found-main project lang key name = ap (λ (p : Project). context_of p lang key name) (in-main project)

pub found-another : (project : Project) (domain lang : Text) (key : Key) (name : Text) → same_domain domain main ≡ false → context_of (project_in (main_alone project) domain) lang key name ≡ None
found-another project domain lang key name apart =
    ap (λ (p : Project). context_of p lang key name) (in-another project domain apart)
    ∙ ap (option_map (λ (h : Entry). record {
      rule = rule_at (as_project (main_alone project) empty_domain) lang;
      policy = project.policy;
      role = role_of (as_project (main_alone project) empty_domain) name;
      view = view_of (as_project (main_alone project) empty_domain) (lang, key);
    })) (maps.get-empty text_cmp lang)

-- ---- what changes

pub put-main : (project new : Project) → new.team ≡ project.team → new.policy ≡ project.policy → with_project (main_alone project) main new ≡ main_alone new
put-main project new team policy = λ i. record { domains = domains i; team = sym team i; policy = sym policy i }
  where
    domains : put_there (main_alone project).domains main (domain_of new) ≡ maps.insert maps.empty main (domain_of new)
    domains = maps.same_map text_total text_IsAntisymmetric _ _ (λ q.
        get-put_there (main_alone project).domains main (domain_of new) q
        ∙ (ap (λ o. cond (same_domain q main) (option_map (λ _. domain_of new) o) o) (get-main project q) ∙ (by (same_domain q main) ∙ sym (get-main new q))))
      where
        by : (tie : Bool) → cond tie (option_map (λ _. domain_of new) (cond tie (Some (domain_of project)) None)) (cond tie (Some (domain_of project)) None) ≡ cond tie (Some (domain_of new)) None
        by true = refl
        by false = refl

pub put-another : (project new : Project) (name : Text) → same_domain name main ≡ false → with_project (main_alone project) name new ≡ main_alone project
put-another project new name apart = nothing_put (main_alone project) name new (has-main project name ∙ apart)

pub team-main : (project : Project) (team : maps.FinMap text_cmp Role) → with_team (main_alone project) team ≡ main_alone (record project { team = team })
team-main project team = refl

pub entries-main : (project : Project) → maps.entries (main_alone project).domains ≡ (main, domain_of project) ∷ []
entries-main project = maps.entries-insert text_total maps.empty main (domain_of project) ∙ ap (maps.put text_cmp main (domain_of project)) (no_entries text_cmp)

pub policy-main : (project : Project) (policy : Policy) → office_under (main_alone project) policy ≡ main_alone (with_policy project policy)
policy-main project policy =
    ap (λ (es : List (Text × Domain)). record (main_alone project) { policy = policy; domains = maps.from_entries (map (λ d. (d.0, domain_of (with_policy (as_project (main_alone project) d.1) policy))) es) })
    (entries-main project)

pub numbers-main : (project : Project) → all_numbers (main_alone project) ≡ numbers_in (domain_of project)
numbers-main project = ap (λ (es : List (Text × Domain)). flat_map (λ d. numbers_in d.1) es) (entries-main project) ∙ append-nil (numbers_in (domain_of project))
