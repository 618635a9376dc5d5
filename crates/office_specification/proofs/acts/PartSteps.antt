-- An act reads no more of an office than its part.
use Rattle.std.proofs.Common.{◌≡◌, Bool, true, false, cond, not, ◌&&◌, List, [], ◌∷◌, map, length, Option, Some, None, is_some, refl, sym, ap, subst, ◌∙◌}
use Rattle.std.specs.Prelude.{T, nat_lt, nat_le, sum_by, unwrap_or, option_map}
use Rattle.std.specs.List.{list_any}
use Rattle.std.specs.Ordering.{eq_by_cmp, is_lt}
use Rattle.std.specs.FinMap as maps
use Rattle.std.specs.FinMap.Entries.{find, below_all, is_sorted, same_entries}
use Rattle.std.proofs.lemmas.List.{length-map}
use Rattle.po_text.specs.Texts.{Text, text_cmp}
use Rattle.units.specs.Limits.{domain_limit, team_limit}
use Rattle.units.specs.Units.{is_below}
use Rattle.units.specs.Project.{Project, role_in}
use Rattle.units.specs.Office.{Office, Domain, empty_domain, same_domain, project_in, domain_of}
use Rattle.units.specs.Orders.{text_total, text_IsAntisymmetric}
use Rattle.units.specs.Changes.{set_role, office_under, with_team, with_domain}
use Rattle.units.specs.declared.unit.Policy.{Policy}
use Rattle.units.specs.declared.unit.Role.{Role}
use Rattle.units.specs.declared.unit.Role.TheVariants.{Manager}
use Rattle.units.specs.declared.unit.Refusal.{Refusal}
use Rattle.units.specs.declared.unit.Refusal.TheVariants.{BelowRole, PastLimit, LastManager, DomainExists, NoDomain}
use Rattle.request_book.specs.declared.act.Act.{Act}
use Rattle.request_book.specs.declared.act.Act.TheVariants.{OnUnit, SetTemplate, AddLanguage, SetRole, SetPolicy, AddDomain}
use Rattle.request_book.specs.declared.act.Request.{Request}
use Rattle.replies.specs.Bodies.{Stepped, refuse, reply, team_fields, policy_fields, domain_fields}
use Rattle.office_specification.specs.declared.parts.Part.{Part}
use Rattle.office_specification.specs.declared.parts.Part.TheVariants as parts
use Rattle.office_specification.specs.Laws.{IsStepAlike}
use Rattle.office_specification.specs.OfficeActs.{is_manager, managed, team_step, policy_step, domain_step, passes, turned}
use Rattle.office_specification.specs.Parts.{part_of, ShareTeam, ShareLanguages, AreAlikeIn, ShareTurned, ShareCounts}
use Rattle.office_specification.specs.ProjectActs.{unit_act_step, template_step, language_step}
use Rattle.office_specification.specs.Step.{in_domain, in_known_domain, act_step, step}
use Rattle.office_specification.proofs.acts.LanguageSteps.{IsLanguageAlike, language_alike}
use Rattle.office_specification.proofs.domains.InDomains.{put_there, get-put_there, contains-put_there}
use Rattle.office_specification.proofs.rules.DomainsKept.{get-under}

-- ---- domains of the same names

-- entries with the same keys, and with one value
abbrev emptied : List (Text × Domain) → List (Text × Domain)
emptied es = map (λ e. (e.0, empty_domain)) es

find-emptied : (q : Text) (es : List (Text × Domain)) → find text_cmp q (emptied es) ≡ cond (is_some (find text_cmp q es)) (Some empty_domain) None
find-emptied q [] = refl
find-emptied q (e ∷ es) =
    elim (eq_by_cmp text_cmp q e.0) as (λ b. cond b (Some empty_domain) (find text_cmp q (emptied es)) ≡ cond (is_some (cond b (Some e.1) (find text_cmp q es))) (Some empty_domain) None) [
      | true ↦ refl
      | false ↦ find-emptied q es
    ]

below-emptied : (k : Text) (es : List (Text × Domain)) → below_all text_cmp k (emptied es) ≡ below_all text_cmp k es
below-emptied k [] = refl
below-emptied k (e ∷ es) = ap (λ b. is_lt (text_cmp k e.0) && b) (below-emptied k es)

sorted-emptied : (es : List (Text × Domain)) → is_sorted text_cmp (emptied es) ≡ is_sorted text_cmp es
sorted-emptied [] = refl
sorted-emptied (e ∷ es) = λ i. below-emptied e.0 es i && sorted-emptied es i

-- there are as many
pub same_count : (x y : maps.FinMap text_cmp Domain) → ((domain : Text) → maps.contains_key x domain ≡ maps.contains_key y domain) → maps.len x ≡ maps.len y
same_count x y named =
    maps.len-entries x ∙ (sym (length-map (maps.entries x) (λ e. (e.0, empty_domain))) ∙ (ap length both ∙ (length-map (maps.entries y) (λ e. (e.0, empty_domain)) ∙ sym (maps.len-entries y))))
  where
    in_order : (m : maps.FinMap text_cmp Domain) → T (is_sorted text_cmp (emptied (maps.entries m)))
    in_order m = subst T (sym (sorted-emptied (maps.entries m))) (maps.entries_sorted m)

    there : (q : Text) → is_some (find text_cmp q (maps.entries x)) ≡ is_some (find text_cmp q (maps.entries y))
    there q = sym (ap is_some (maps.get-entries x q)) ∙ (named q ∙ ap is_some (maps.get-entries y q))

    both : emptied (maps.entries x) ≡ emptied (maps.entries y)
    both =
        same_entries text_cmp text_total text_IsAntisymmetric (emptied (maps.entries x)) (emptied (maps.entries y)) (in_order x) (in_order y)
        (λ q. find-emptied q (maps.entries x) ∙ (ap (λ b. cond b (Some empty_domain) None) (there q) ∙ sym (find-emptied q (maps.entries y))))

put_still : (b : Bool) (o p : Option Domain) → is_some o ≡ is_some p → is_some (cond b (Some empty_domain) o) ≡ is_some (cond b (Some empty_domain) p)
put_still true o p e = refl
put_still false o p e = e

-- the projects of one domain are one
pub same_project : (x y : Office) (domain : Text) → ShareTeam x y → maps.get x.domains domain ≡ maps.get y.domains domain → project_in x domain ≡ project_in y domain
same_project x y domain alike own = λ i. record {
  template = (unwrap_or (own i) empty_domain).template;
  headers = (unwrap_or (own i) empty_domain).headers;
  units = (unwrap_or (own i) empty_domain).units;
  team = alike.team i;
  policy = alike.policy i;
}

-- an office is alike to itself in each part
pub same_alike : (part : Part) (office : Office) → AreAlikeIn part office office
same_alike parts.Team office = record { team = refl; policy = refl; domains = λ domain. refl }
same_alike (parts.Languages domain) office = (record { team = refl; policy = refl; domains = λ other. refl }, record { template = refl; headers = refl; team = refl; policy = refl })
same_alike (parts.Domain domain) office = (record { team = refl; policy = refl; domains = λ other. refl }, refl)

-- in whichever part offices are alike, they have one team
pub one_team : (part : Part) (x y : Office) → AreAlikeIn part x y → x.team ≡ y.team
one_team parts.Team x y alike = alike.team
one_team (parts.Languages domain) x y alike = alike.0.team
one_team (parts.Domain domain) x y alike = alike.0.team

-- domains are one but for their units
abbrev HaveOneFrame : Domain → Domain → Type 0
HaveOneFrame u v = (u.template ≡ v.template) × (u.headers ≡ v.headers)

put_frame : (tied : Bool) (o p : Option Domain) → is_some o ≡ is_some p → HaveOneFrame (unwrap_or o empty_domain) (unwrap_or p empty_domain) → (u v : Domain) → HaveOneFrame u v
    → HaveOneFrame (unwrap_or (cond tied (option_map (λ _. u) o) o) empty_domain) (unwrap_or (cond tied (option_map (λ _. v) p) p) empty_domain)
put_frame true None None e own u v one = (refl, refl)
put_frame true None (Some q) e own u v one = cc
put_frame true (Some q) None e own u v one = cc
put_frame true (Some q) (Some r) e own u v one = one
put_frame false o p e own u v one = own

-- offices that are alike in a domain are so in its languages
pub fewer : (x y : Office) (domain : Text) → AreAlikeIn (parts.Domain domain) x y → AreAlikeIn (parts.Languages domain) x y
fewer x y domain alike = (
  alike.0,
  record {
    template = ap (λ (project : Project). project.template) (same_project x y domain alike.0 alike.1);
    headers = ap (λ (project : Project). project.headers) (same_project x y domain alike.0 alike.1);
    team = alike.0.team;
    policy = alike.0.policy;
  },
)

-- what an act makes of its domain
abbrev made : (Project → Stepped Project) → Text → Office → Domain
made next domain office = domain_of (next (project_in office domain)).0

-- ---- refusals

-- of two that answer one question alike, both refuse or both go on
either : (part : Part) (b c : Bool) → b ≡ c → (x y : Office) (refusal : Refusal) (s t : Stepped Office) → AreAlikeIn part x y → IsStepAlike part s t
    → IsStepAlike part (cond b (refuse x refusal) s) (cond c (refuse y refusal) t)
either part true true e x y refusal s t alike steps = record { reply = refl; left = alike }
either part true false e x y refusal s t alike steps = cc
either part false true e x y refusal s t alike steps = cc
either part false false e x y refusal s t alike steps = steps

managed_alike : (part : Part) (x y : Office) (caller : Text) (s t : Stepped Office) → x.team ≡ y.team → AreAlikeIn part x y → IsStepAlike part s t
    → IsStepAlike part (managed x caller s) (managed y caller t)
managed_alike part x y caller s t team alike steps =
    either part (is_below (role_in x.team caller) Manager) (is_below (role_in y.team caller) Manager) (ap (λ team. is_below (role_in team caller) Manager) team) x y BelowRole s t alike steps

-- under a policy there are the same domains
still_there : (office : Office) (policy : Policy) (domain : Text) → maps.contains_key (office_under office policy).domains domain ≡ maps.contains_key office.domains domain
still_there office policy domain = ap is_some (get-under office policy domain) ∙ by _ (maps.get office.domains domain)
  where
    by : (f : Domain → Domain) (o : Option Domain) → is_some (option_map f o) ≡ is_some o
    by f None = refl
    by f (Some d) = refl

-- ---- a role

module _ (x y : Office) (alike : ShareTeam x y) where
  team_alike : (name : Text) (role : Role) → IsStepAlike parts.Team (team_step x name role) (team_step y name role)
  team_alike name role =
      either parts.Team (nat_lt team_limit (maps.len (set_role name role x.team))) (nat_lt team_limit (maps.len (set_role name role y.team)))
      (ap (λ team. nat_lt team_limit (maps.len (set_role name role team))) alike.team) x y PastLimit _ _ alike
      (either parts.Team (not (list_any is_manager (maps.values (set_role name role x.team)))) (not (list_any is_manager (maps.values (set_role name role y.team))))
      (ap (λ team. not (list_any is_manager (maps.values (set_role name role team)))) alike.team) x y LastManager
      (with_team x (set_role name role x.team), reply 200 (team_fields name role)) (with_team y (set_role name role y.team), reply 200 (team_fields name role)) alike
      (record { reply = refl; left = record { team = ap (set_role name role) alike.team; policy = alike.policy; domains = alike.domains } }))

  -- ---- a policy

  policy_alike : (policy : Policy) → ShareTurned policy x y → IsStepAlike parts.Team (policy_step x policy) (policy_step y policy)
  policy_alike policy counts =
      either parts.Team (list_any (passes policy) (maps.values x.domains)) (list_any (passes policy) (maps.values y.domains)) counts.past x y PastLimit
      (office_under x policy, reply 200 (policy_fields (sum_by (turned policy) (maps.values x.domains)))) (office_under y policy, reply 200 (policy_fields (sum_by (turned policy) (maps.values y.domains)))) alike
      (record {
        reply = ap (λ n. reply 200 (policy_fields n)) counts.count;
        left = record { team = alike.team; policy = refl; domains = λ other. still_there x policy other ∙ (alike.domains other ∙ sym (still_there y policy other)) };
      })

  -- ---- a domain

  domain_alike : (domain : Text) → IsStepAlike parts.Team (domain_step x domain) (domain_step y domain)
  domain_alike domain =
      either parts.Team (maps.contains_key x.domains domain) (maps.contains_key y.domains domain) (alike.domains domain) x y DomainExists _ _ alike
      (either parts.Team (nat_le domain_limit (maps.len x.domains)) (nat_le domain_limit (maps.len y.domains)) (ap (nat_le domain_limit) (same_count x.domains y.domains alike.domains)) x y PastLimit
      (with_domain x domain, reply 200 (domain_fields domain)) (with_domain y domain, reply 200 (domain_fields domain)) alike
      (record { reply = refl; left = record { team = alike.team; policy = alike.policy; domains = λ other. added other } }))
    where
      added : (other : Text) → maps.contains_key (maps.insert x.domains domain empty_domain) other ≡ maps.contains_key (maps.insert y.domains domain empty_domain) other
      added other =
          ap is_some (maps.get-insert text_total x.domains domain empty_domain other)
          ∙ (put_still (eq_by_cmp text_cmp other domain) (maps.get x.domains other) (maps.get y.domains other) (alike.domains other)
          ∙ sym (ap is_some (maps.get-insert text_total y.domains domain empty_domain other)))

  -- ---- acts in a domain

  module _ (domain : Text) (own : maps.get x.domains domain ≡ maps.get y.domains domain) (next : Project → Stepped Project) where
    in_domain_alike : IsStepAlike (parts.Domain domain) (in_domain x domain next) (in_domain y domain next)
    in_domain_alike = record {
      reply = ap (λ (p : Project). (next p).1) same;
      left = (
        record {
          team = alike.team;
          policy = alike.policy;
          domains = λ other. contains-put_there x.domains domain (made next domain x) other ∙ (alike.domains other ∙ sym (contains-put_there y.domains domain (made next domain y) other));
        },
        get-put_there x.domains domain (made next domain x) domain ∙ (put ∙ sym (get-put_there y.domains domain (made next domain y) domain)),
      );
    }
      where
        same : project_in x domain ≡ project_in y domain
        same = same_project x y domain alike own

        put : cond (same_domain domain domain) (option_map (λ _. made next domain x) (maps.get x.domains domain)) (maps.get x.domains domain)
            ≡ cond (same_domain domain domain) (option_map (λ _. made next domain y) (maps.get y.domains domain)) (maps.get y.domains domain)
        put = λ i. cond (same_domain domain domain) (option_map (λ _. domain_of (next (same i)).0) (own i)) (own i)

    known_alike : IsStepAlike (parts.Domain domain) (in_known_domain x domain next) (in_known_domain y domain next)
    known_alike =
        either (parts.Domain domain) (not (maps.contains_key x.domains domain)) (not (maps.contains_key y.domains domain)) (ap not (alike.domains domain)) x y NoDomain
        (in_domain x domain next) (in_domain y domain next) (alike, own) in_domain_alike

  -- ---- acts that leave a domain's units unread

  module _ (domain : Text) (own : ShareLanguages (project_in x domain) (project_in y domain)) (next : Project → Stepped Project)
      (each : (p q : Project) → ShareLanguages p q → IsLanguageAlike (next p) (next q)) where
    known_languages : IsStepAlike (parts.Languages domain) (in_known_domain x domain next) (in_known_domain y domain next)
    known_languages =
        either (parts.Languages domain) (not (maps.contains_key x.domains domain)) (not (maps.contains_key y.domains domain)) (ap not (alike.domains domain)) x y NoDomain
        (in_domain x domain next) (in_domain y domain next) (alike, own) (record { reply = after.reply; left = (shared, record { template = framed.0; headers = framed.1; team = alike.team; policy = alike.policy }) })
      where
        after : IsLanguageAlike (next (project_in x domain)) (next (project_in y domain))
        after = each (project_in x domain) (project_in y domain) own

        shared : ShareTeam (in_domain x domain next).0 (in_domain y domain next).0
        shared = record {
          team = alike.team;
          policy = alike.policy;
          domains = λ other. contains-put_there x.domains domain (made next domain x) other ∙ (alike.domains other ∙ sym (contains-put_there y.domains domain (made next domain y) other));
        }

        framed : HaveOneFrame (unwrap_or (maps.get (put_there x.domains domain (made next domain x)) domain) empty_domain) (unwrap_or (maps.get (put_there y.domains domain (made next domain y)) domain) empty_domain)
        framed =
            subst (λ (found : Option Domain). HaveOneFrame (unwrap_or found empty_domain) (unwrap_or (maps.get (put_there y.domains domain (made next domain y)) domain) empty_domain))
            (sym (get-put_there x.domains domain (made next domain x) domain))
            (subst (λ (found : Option Domain). HaveOneFrame (unwrap_or (cond (same_domain domain domain) (option_map (λ _. made next domain x) (maps.get x.domains domain)) (maps.get x.domains domain)) empty_domain) (unwrap_or found empty_domain))
            (sym (get-put_there y.domains domain (made next domain y) domain))
            (put_frame (same_domain domain domain) (maps.get x.domains domain) (maps.get y.domains domain) (alike.domains domain) (own.template, own.headers) (made next domain x) (made next domain y) (after.left.template, after.left.headers)))

-- ---- each act

act_alike : (x y : Office) (caller number : Text) (act : Act) → AreAlikeIn (part_of act) x y → ShareCounts act x y → IsStepAlike (part_of act) (act_step x caller number act) (act_step y caller number act)
unfolding act_step
act_alike x y caller number (OnUnit domain lang key act) alike counts = in_domain_alike x y alike.0 domain alike.1 (λ project. unit_act_step project caller number (lang, key) act)
act_alike x y caller number (SetTemplate domain po) alike counts =
    managed_alike (parts.Domain domain) x y caller _ _ alike.0.team alike (known_alike x y alike.0 domain alike.1 (λ project. template_step project po))
act_alike x y caller number (AddLanguage domain lang po) alike counts =
    managed_alike (parts.Languages domain) x y caller _ _ alike.0.team alike (known_languages x y alike.0 domain alike.1 (λ project. language_step project lang po) (λ p q same. language_alike p q same lang po))
act_alike x y caller number (SetRole name role) alike counts = managed_alike parts.Team x y caller _ _ alike.team alike (team_alike x y alike name role)
act_alike x y caller number (SetPolicy policy) alike counts = managed_alike parts.Team x y caller _ _ alike.team alike (policy_alike x y alike policy counts)
act_alike x y caller number (AddDomain domain) alike counts = managed_alike parts.Team x y caller _ _ alike.team alike (domain_alike x y alike domain)

pub step_alike : (x y : Office) (request : Request) → AreAlikeIn (part_of request.act) x y → ShareCounts request.act x y → IsStepAlike (part_of request.act) (step x request) (step y request)
step_alike x y request alike counts = act_alike x y request.caller request.number request.act alike counts
