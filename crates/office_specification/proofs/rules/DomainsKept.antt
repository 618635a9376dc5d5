-- What keeps the rules of an office: a project in a domain, a new domain, a team, a policy.
use Rattle.std.proofs.Common.{◌≡◌, ◌≤◌, ◌<◌, ◌+◌, List, [], ◌∷◌, Bool, true, false, cond, ◌||◌, ◌&&◌, not, Option, Some, None, is_some, refl, sym, ◌∙◌, ap, subst, length, map, arith}
use Rattle.std.specs.Prelude.{T, IsSome, option_map, unwrap_or, filter}
use Rattle.std.specs.Option.{option_map_or}
use Rattle.std.specs.List.{list_any}
use Rattle.std.specs.declared.cmp.Ordering.{Ordering}
use Rattle.std.specs.Ordering.{is_lt}
use Rattle.std.specs.FinMap as maps
use Rattle.std.specs.FinMap.Entries.{below_all}
use Rattle.std.proofs.lemmas.List.{length-map}
use Rattle.std.proofs.lemmas.List.Elements.{All-nil}
use Rattle.po_text.specs.declared.entry.Entry.{Entry}
use Rattle.po_text.specs.Texts.{Text, text_cmp, text_eq}
use Rattle.units.specs.Limits.{domain_limit, team_limit, unit_limit, is_accept_at}
use Rattle.units.specs.Units.{is_below}
use Rattle.units.specs.Project.{Project, Place, place_cmp}
use Rattle.units.specs.Projects.{IsProject, IsTemplateEntry}
use Rattle.units.specs.Office.{main, Domain, empty_domain, same_domain, Office, as_project, project_in, domain_of, with_project}
use Rattle.units.specs.Offices.{IsOffice}
use Rattle.units.specs.Changes.{with_policy, domains_under, office_under, with_team, with_domain}
use Rattle.units.specs.declared.unit.Unit.{Unit}
use Rattle.units.specs.declared.unit.Role.TheVariants.{Manager}
use Rattle.units.specs.declared.unit.Policy.{Policy}
use Rattle.units.specs.Orders.{text_total, text_IsAntisymmetric}
use Rattle.office_specification.specs.OfficeActs.{passes}
use Rattle.office_specification.specs.OfficeRules.{numbers_in, all_numbers}
use Rattle.office_specification.proofs.domains.InDomains.{contains-put_there, project_own, project_elsewhere, equal_domains, HasShared}
use Rattle.office_specification.proofs.rules.DomainNumbers.{NumbersGo, numbers_stay, fewer_go, no_entries, no_numbers, numbers_at_domain, all_go}
use Rattle.office_specification.proofs.rules.PolicyKept.{policy_kept, policy_fewer}
use Rattle.office_specification.proofs.rules.TeamKept.{Team, IsTeam, team_kept}

-- ---- a project in a domain

pub put_kept : (office : Office) (domain : Text) (project : Project) → IsOffice office → maps.contains_key office.domains domain ≡ true → IsProject project → HasShared office project → IsOffice (with_project office domain project)
put_kept office domain project rules there kept shared = record {
  has_main = contains-put_there office.domains domain (domain_of project) main ∙ rules.has_main;
  few_domains = rw (same_length (maps.contains_key office.domains domain) refl) rules.few_domains;
  projects = λ other is. by other (same_domain other domain) refl (sym (contains-put_there office.domains domain (domain_of project) other) ∙ is);
}
  where
    same_length : (known : Bool) → maps.contains_key office.domains domain ≡ known → maps.len (cond known (maps.insert office.domains domain (domain_of project)) office.domains) ≡ maps.len office.domains
    same_length true e = maps.len-insert text_total office.domains domain (domain_of project) ∙ ap (λ b. cond b (maps.len office.domains) (maps.len office.domains + 1)) e
    same_length false e = refl

    by : (other : Text) (tie : Bool) → same_domain other domain ≡ tie → IsSome (maps.get office.domains other) → IsProject (project_in (with_project office domain project) other)
    by other true t is =
        subst (λ d. IsProject (project_in (with_project office domain project) d)) (sym (equal_domains other domain t)) (subst IsProject (sym (project_own office domain project there shared)) kept)
    by other false t is = subst IsProject (sym (project_elsewhere office domain other project t)) (rules.projects other is)

-- ---- a domain with nothing in it

module _ {K X : Type 0} (R : K → K → Ordering) where
  nothing_there : {A : Type 0} (q : K) (u : X) → maps.get (maps.empty {X = X} {R = R}) q ≡ Some u → A
  nothing_there q u e = let wrong : None ≡ Some u = sym (maps.get-empty R q) ∙ e in cc

empty_kept : (office : Office) → IsOffice office → IsProject (as_project office empty_domain)
empty_kept office rules =
    let its = rules.projects main rules.has_main in
    record {
      managed = its.managed;
      members = its.members;
      accepting = its.accepting;
      template_valid = record { each = tt; unique = tt; header = tt };
      template_plain = All-nil IsTemplateEntry;
      ruled = λ lang header e. nothing_there text_cmp lang header e;
      placed = λ place unit e. nothing_there place_cmp place unit e;
      complete = λ lang key entry there is. cc;
      exact = λ place unit e current. nothing_there place_cmp place unit e;
      each = λ place unit e. nothing_there place_cmp place unit e;
      reviewed = λ off place unit e. nothing_there place_cmp place unit e;
      few_languages = rw (maps.len-empty text_cmp Entry) (omega arith);
      few_names = its.few_names;
      few_units = λ lang. subst (λ (es : List (Place × Unit)). length (map (λ e. e.1) (filter (λ e. text_eq lang e.0.0) es)) ≤ unit_limit) (sym (no_entries place_cmp)) (omega arith);
    }

-- whether it is there or not
pub any_project : (office : Office) → IsOffice office → (domain : Text) → IsProject (project_in office domain)
any_project office rules domain = by (maps.get office.domains domain) refl
  where
    by : (o : Option Domain) → maps.get office.domains domain ≡ o → IsProject (as_project office (unwrap_or o empty_domain))
    by None e = empty_kept office rules
    by (Some d) e = subst (λ o. IsProject (as_project office (unwrap_or o empty_domain))) e (rules.projects domain (ap is_some e))

-- ---- a new domain

get-new : (office : Office) (domain other : Text) → maps.get (with_domain office domain).domains other ≡ cond (same_domain other domain) (Some empty_domain) (maps.get office.domains other)
get-new office domain other = maps.get-insert text_total office.domains domain empty_domain other

pub domain_kept : (office : Office) (domain : Text) → IsOffice office → maps.contains_key office.domains domain ≡ false → maps.len office.domains < domain_limit → IsOffice (with_domain office domain)
domain_kept office domain rules missing room = record {
  has_main = ap is_some (get-new office domain main) ∙ still (same_domain main domain) (maps.get office.domains main) rules.has_main;
  few_domains = rw (maps.len-insert text_total office.domains domain empty_domain, missing) (omega (arith, room));
  projects = λ other is. subst (λ o. IsProject (as_project office (unwrap_or o empty_domain))) (sym (get-new office domain other)) (by other (same_domain other domain));
}
  where
    still : (tie : Bool) (o : Option Domain) → IsSome o → is_some (cond tie (Some empty_domain) o) ≡ true
    still true o is = refl
    still false o is = is

    by : (other : Text) (tie : Bool) → IsProject (as_project office (unwrap_or (cond tie (Some empty_domain) (maps.get office.domains other)) empty_domain))
    by other true = empty_kept office rules
    by other false = any_project office rules other

pub domain_numbers : (office : Office) (domain : Text) → maps.contains_key office.domains domain ≡ false → NumbersGo (all_numbers office) (all_numbers (with_domain office domain))
domain_numbers office domain missing = all_go office.domains (with_domain office domain).domains each
  where
    same : (other : Text) → numbers_at_domain office.domains other ≡ numbers_at_domain (with_domain office domain).domains other
    same other = by (same_domain other domain) refl ∙ sym (ap (λ o. option_map_or numbers_in o []) (get-new office domain other))
      where
        nothing : (o : Option Domain) → is_some o ≡ false → option_map_or numbers_in o [] ≡ numbers_in empty_domain
        nothing None e = sym no_numbers
        nothing (Some d) e = cc

        by : (tie : Bool) → same_domain other domain ≡ tie → option_map_or numbers_in (maps.get office.domains other) [] ≡ option_map_or numbers_in (cond tie (Some empty_domain) (maps.get office.domains other)) []
        by true t = nothing (maps.get office.domains other) (ap (λ d. maps.contains_key office.domains d) (equal_domains other domain t) ∙ missing)
        by false t = refl

    each : (other : Text) → NumbersGo (numbers_at_domain office.domains other) (numbers_at_domain (with_domain office domain).domains other)
    each other = subst (NumbersGo (numbers_at_domain office.domains other)) (same other) (numbers_stay (numbers_at_domain office.domains other))

-- ---- a team

pub office_team_kept : (office : Office) (team : Team) → IsOffice office → IsTeam team → list_any (λ role. not (is_below role Manager)) (maps.values team) ≡ true → maps.len team ≤ team_limit → IsOffice (with_team office team)
office_team_kept office team rules members managed few = record {
  has_main = rules.has_main;
  few_domains = rules.few_domains;
  projects = λ domain is. team_kept (project_in office domain) team (rules.projects domain is) members managed few;
}

-- ---- a policy

abbrev under_it : Office → Policy → Domain → Domain
under_it office policy domain = domain_of (with_policy (as_project office domain) policy)

find-mapped : (f : Domain → Domain) (es : List (Text × Domain)) (q : Text) → maps.find text_cmp q (map (λ e. (e.0, f e.1)) es) ≡ option_map f (maps.find text_cmp q es)
find-mapped f [] q = refl
find-mapped f (e ∷ es) q = by (same_domain q e.0) (find-mapped f es q)
  where
    by : (tie : Bool) → maps.find text_cmp q (map (λ d. (d.0, f d.1)) es) ≡ option_map f (maps.find text_cmp q es) →
        cond tie (Some (f e.1)) (maps.find text_cmp q (map (λ d. (d.0, f d.1)) es)) ≡ option_map f (cond tie (Some e.1) (maps.find text_cmp q es))
    by true rest = refl
    by false rest = rest

-- what each domain has under a policy
pub get-under : (office : Office) (policy : Policy) (domain : Text) → maps.get (office_under office policy).domains domain ≡ option_map (under_it office policy) (maps.get office.domains domain)
get-under office policy domain =
    maps.get-from_entries text_total (domains_under office policy) domain
    ∙ (find-mapped (under_it office policy) (maps.entries office.domains) domain ∙ ap (option_map (under_it office policy)) (sym (maps.get-entries office.domains domain)))

below-mapped : (f : Domain → Domain) (k : Text) (es : List (Text × Domain)) → below_all text_cmp k (map (λ e. (e.0, f e.1)) es) ≡ below_all text_cmp k es
below-mapped f k [] = refl
below-mapped f k (e ∷ es) = ap (λ b. is_lt (text_cmp k e.0) && b) (below-mapped f k es)

sorted-mapped : (f : Domain → Domain) (es : List (Text × Domain)) → maps.is_sorted text_cmp (map (λ e. (e.0, f e.1)) es) ≡ maps.is_sorted text_cmp es
sorted-mapped f [] = refl
sorted-mapped f (e ∷ es) = λ i. below-mapped f e.0 es i && sorted-mapped f es i

-- the same names in the same order
pub entries-under : (office : Office) (policy : Policy) → maps.entries (office_under office policy).domains ≡ domains_under office policy
entries-under office policy =
    let sorted : T (maps.is_sorted text_cmp (domains_under office policy)) = subst T (sym (sorted-mapped (under_it office policy) (maps.entries office.domains))) (maps.entries_sorted office.domains) in
    let one : (office_under office policy).domains ≡ maps.from_sorted (domains_under office policy) =
    maps.same_map text_total text_IsAntisymmetric _ _ (λ q. maps.get-from_entries text_total (domains_under office policy) q ∙ sym (maps.get-from_sorted text_cmp (domains_under office policy) q sorted)) in
    ap maps.entries one ∙ maps.entries-from_sorted text_cmp (domains_under office policy) sorted

-- no domain passes the last revision
within_each : (policy : Policy) (es : List (Text × Domain)) (q : Text) (d : Domain) → list_any (passes policy) (map (λ e. e.1) es) ≡ false → maps.find text_cmp q es ≡ Some d → passes policy d ≡ false
within_each policy [] q d none found = cc
within_each policy (e ∷ es) q d none found = by (passes policy e.1) refl (within_each policy es q d) (same_domain q e.0) none found
  where
    by : (past : Bool) → passes policy e.1 ≡ past → (list_any (passes policy) (map (λ f. f.1) es) ≡ false → maps.find text_cmp q es ≡ Some d → passes policy d ≡ false) → (tie : Bool) →
        (past || list_any (passes policy) (map (λ f. f.1) es)) ≡ false → cond tie (Some e.1) (maps.find text_cmp q es) ≡ Some d → passes policy d ≡ false
    by true p rest tie none found = cc
    by false p rest true none found = let same : e.1 ≡ d = cc in ap (passes policy) (sym same) ∙ p
    by false p rest false none found = rest none found

pub office_policy_kept : (office : Office) (policy : Policy) → IsOffice office → is_accept_at policy.accept_at ≡ true → list_any (passes policy) (maps.values office.domains) ≡ false → IsOffice (office_under office policy)
office_policy_kept office policy rules accepting within = record {
  has_main = ap is_some (get-under office policy main) ∙ still (maps.get office.domains main) rules.has_main;
  few_domains = rw (maps.len-entries (office_under office policy).domains ∙ (ap length (entries-under office policy) ∙ (length-map _ _ ∙ sym (maps.len-entries office.domains)))) rules.few_domains;
  projects = λ domain is. by domain (maps.get office.domains domain) refl (subst IsSome (get-under office policy domain) is);
}
  where
    still : (o : Option Domain) → IsSome o → is_some (option_map (under_it office policy) o) ≡ true
    still None is = cc
    still (Some d) is = refl

    one : (domain : Text) (d : Domain) → maps.get office.domains domain ≡ Some d → IsProject (with_policy (as_project office d) policy)
    one domain d e =
        let its : IsProject (as_project office d) = subst (λ o. IsProject (as_project office (unwrap_or o empty_domain))) e (rules.projects domain (ap is_some e)) in
        policy_kept (as_project office d) policy its accepting (within_each policy (maps.entries office.domains) domain d within (sym (maps.get-entries office.domains domain) ∙ e))

    by : (domain : Text) (o : Option Domain) → maps.get office.domains domain ≡ o → IsSome (option_map (under_it office policy) o) → IsProject (project_in (office_under office policy) domain)
    by domain None e is = cc
    by domain (Some d) e is =
        subst (λ o. IsProject (as_project (office_under office policy) (unwrap_or o empty_domain))) (sym (get-under office policy domain ∙ ap (option_map (under_it office policy)) e)) (one domain d e)

pub policy_numbers : (office : Office) (policy : Policy) → NumbersGo (all_numbers office) (all_numbers (office_under office policy))
policy_numbers office policy = all_go office.domains (office_under office policy).domains (λ domain.
    subst (λ o. NumbersGo (numbers_at_domain office.domains domain) (option_map_or numbers_in o [])) (sym (get-under office policy domain)) (by (maps.get office.domains domain)))
  where
    by : (o : Option Domain) → NumbersGo (option_map_or numbers_in o []) (option_map_or numbers_in (option_map (under_it office policy) o) [])
    by None = numbers_stay []
    by (Some d) = fewer_go d.units (with_policy (as_project office d) policy).units (policy_fewer (as_project office d) policy)
