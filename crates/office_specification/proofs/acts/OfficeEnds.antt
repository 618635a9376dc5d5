-- A request is refused and changes nothing, or is answered with 200.
use Rattle.std.proofs.Common.{◌≡◌, ◌≢◌, [], Bool, true, false, cond, not, refl, sym, ◌∙◌, ap, subst}
use Rattle.std.specs.Prelude.{nat_lt, nat_le, sum_by, ⊤}
use Rattle.std.specs.List.{list_any}
use Rattle.std.specs.FinMap as maps
use Rattle.po_text.specs.Texts.{Text, text_cmp}
use Rattle.units.specs.Limits.{domain_limit, team_limit}
use Rattle.units.specs.Units.{is_below}
use Rattle.units.specs.Project.{Project, role_in}
use Rattle.units.specs.Office.{Office, project_in, with_project}
use Rattle.units.specs.Changes.{set_role, office_under, with_team, with_domain}
use Rattle.units.specs.declared.unit.Policy.{Policy}
use Rattle.units.specs.declared.unit.Role.{Role}
use Rattle.units.specs.declared.unit.Role.TheVariants.{Manager}
use Rattle.units.specs.declared.unit.Refusal.TheVariants.{BelowRole, PastLimit, LastManager, DomainExists, NoDomain}
use Rattle.request_book.specs.declared.act.Act.{Act}
use Rattle.request_book.specs.declared.act.Act.TheVariants.{OnUnit, SetTemplate, AddLanguage, SetRole, SetPolicy, AddDomain}
use Rattle.request_book.specs.declared.act.Request.{Request}
use Rattle.replies.specs.Bodies.{Stepped, reply, refused_with, refuse, team_fields, policy_fields, domain_fields}
use Rattle.office_specification.specs.ProjectActs.{unit_act_step, template_step, language_step}
use Rattle.office_specification.specs.OfficeActs.{managed, team_step, policy_step, domain_step, passes, turned}
use Rattle.office_specification.specs.Step.{in_domain, in_known_domain, act_step, step}
use Rattle.office_specification.proofs.acts.Ends.{IsStatus, Ends, refuses, does, ends_status, ends_still}
use Rattle.office_specification.proofs.acts.ProjectEnds.{Shares, unit_act_ends, template_ends, language_ends}
use Rattle.office_specification.proofs.domains.InDomains.{with_project-same}

abbrev pub Anything : Office → Type 0
Anything office = ⊤

-- ---- acts in a domain

pub in_domain_ends : (office : Office) (domain : Text) (next : Project → Stepped Project) → Ends (Shares (project_in office domain)) (project_in office domain) (next (project_in office domain)) →
    Ends Anything office (in_domain office domain next)
in_domain_ends office domain next ends = by (project_in office domain) refl (next (project_in office domain)) ends
  where
    by : (project : Project) → project ≡ project_in office domain → (after : Stepped Project) → Ends (Shares project) project after → Ends Anything office (with_project office domain after.0, after.1)
    by project same _ (refuses refusal more) =
        let still : office ≡ with_project office domain project = sym (with_project-same office domain) ∙ ap (with_project office domain) (sym same) in
        subst (λ (o : Office). Ends Anything office (o, refused_with refusal more)) still (refuses refusal more)
    by project same _ (does new fields shares) = does (with_project office domain new) fields tt

pub in_known_ends : (office : Office) (domain : Text) (next : Project → Stepped Project) → Ends (Shares (project_in office domain)) (project_in office domain) (next (project_in office domain)) →
    Ends Anything office (in_known_domain office domain next)
in_known_ends office domain next ends = by (maps.contains_key office.domains domain)
  where
    by : (there : Bool) → Ends Anything office (cond (not there) (refuse office NoDomain) (in_domain office domain next))
    by false = refuses NoDomain []
    by true = in_domain_ends office domain next ends

-- ---- acts of the whole office

pub managed_ends : (office : Office) (caller : Text) (after : Stepped Office) → Ends Anything office after → Ends Anything office (managed office caller after)
managed_ends office caller after ends = by (is_below (role_in office.team caller) Manager)
  where
    by : (below : Bool) → Ends Anything office (cond below (refuse office BelowRole) after)
    by true = refuses BelowRole []
    by false = ends

team_ends : (office : Office) (name : Text) (role : Role) → Ends Anything office (team_step office name role)
team_ends office name role = by_team (set_role name role office.team)
  where
    by : (team : maps.FinMap text_cmp Role) (past managed : Bool) → Ends Anything office (cond past (refuse office PastLimit) (cond (not managed) (refuse office LastManager) (with_team office team, reply 200 (team_fields name role))))
    by team true managed = refuses PastLimit []
    by team false false = refuses LastManager []
    by team false true = does (with_team office team) (team_fields name role) tt

    by_team : (team : maps.FinMap text_cmp Role) →
        Ends Anything office (cond (nat_lt team_limit (maps.len team)) (refuse office PastLimit)
        (cond (not (list_any (λ r. not (is_below r Manager)) (maps.values team))) (refuse office LastManager) (with_team office team, reply 200 (team_fields name role))))
    by_team team = by team (nat_lt team_limit (maps.len team)) (list_any (λ r. not (is_below r Manager)) (maps.values team))

policy_ends : (office : Office) (policy : Policy) → Ends Anything office (policy_step office policy)
policy_ends office policy = by (list_any (passes policy) (maps.values office.domains))
  where
    by : (past : Bool) → Ends Anything office (cond past (refuse office PastLimit) (office_under office policy, reply 200 (policy_fields (sum_by (turned policy) (maps.values office.domains)))))
    by true = refuses PastLimit []
    by false = does (office_under office policy) (policy_fields (sum_by (turned policy) (maps.values office.domains))) tt

domain_ends : (office : Office) (domain : Text) → Ends Anything office (domain_step office domain)
domain_ends office domain = by (maps.contains_key office.domains domain) (nat_le domain_limit (maps.len office.domains))
  where
    by : (there full : Bool) → Ends Anything office (cond there (refuse office DomainExists) (cond full (refuse office PastLimit) (with_domain office domain, reply 200 (domain_fields domain))))
    by true full = refuses DomainExists []
    by false true = refuses PastLimit []
    by false false = does (with_domain office domain) (domain_fields domain) tt

-- ---- each request

act_ends : (office : Office) (caller number : Text) (act : Act) → Ends Anything office (act_step office caller number act)
unfolding act_step
act_ends office caller number (OnUnit domain lang key act) =
    in_domain_ends office domain (λ project. unit_act_step project caller number (lang, key) act) (unit_act_ends (project_in office domain) caller number (lang, key) act)
act_ends office caller number (SetTemplate domain po) =
    managed_ends office caller _ (in_known_ends office domain (λ project. template_step project po) (template_ends (project_in office domain) po))
act_ends office caller number (AddLanguage domain lang po) =
    managed_ends office caller _ (in_known_ends office domain (λ project. language_step project lang po) (language_ends (project_in office domain) lang po))
act_ends office caller number (SetRole name role) = managed_ends office caller _ (team_ends office name role)
act_ends office caller number (SetPolicy policy) = managed_ends office caller _ (policy_ends office policy)
act_ends office caller number (AddDomain domain) = managed_ends office caller _ (domain_ends office domain)

-- each request is answered with one of five statuses
pub step_status : (office : Office) (x : Request) → IsStatus (step office x).1.status
step_status office x = ends_status Anything office (step office x) (act_ends office x.caller x.number x.act)

-- what isn't answered with 200 changes nothing
pub step_still : (office : Office) (x : Request) → (step office x).1.status ≢ 200 → (step office x).0 ≡ office
step_still office x h = ends_still Anything office (step office x) (act_ends office x.caller x.number x.act) h
