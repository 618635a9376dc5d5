-- The step of a request for an act on the office, by who asks and by the act.
use Rattle.std.proofs.Common.{◌≡◌, Bool, true, false, cond, not, None, Result, Ok, Err, sym, ap, subst, ◌∙◌}
use Rattle.std.specs.Prelude.{IfOk}
use Rattle.std.specs.FinMap as maps
use Rattle.po_text.specs.Texts.{Text}
use Rattle.units.specs.Units.{is_below}
use Rattle.units.specs.Project.{Project, role_in}
use Rattle.units.specs.Office.{Office, project_in, with_project}
use Rattle.units.specs.declared.unit.Role.{Role}
use Rattle.units.specs.declared.unit.Role.TheVariants.{Manager}
use Rattle.units.specs.declared.unit.Policy.{Policy}
use Rattle.units.specs.declared.unit.Refusal.TheVariants.{BelowRole, NoDomain}
use Rattle.request_book.specs.Clash.{is_unit_act}
use Rattle.request_book.specs.declared.act.Act.{Act}
use Rattle.request_book.specs.declared.act.Act.TheVariants.{OnUnit, SetTemplate, AddLanguage, SetRole, SetPolicy, AddDomain}
use Rattle.request_book.specs.declared.act.Request.{Request}
use Rattle.replies.specs.Bodies.{Stepped, refuse, refused}
use Rattle.office_specification.specs.ProjectActs.{template_step, language_step}
use Rattle.office_specification.specs.OfficeActs.{managed, team_step, policy_step, domain_step}
use Rattle.office_specification.specs.OfficeChanges.{changed_project_by}
use Rattle.office_specification.specs.Step.{step, act_step, in_domain, in_known_domain}
use Rattle.office_specification.specs.Parts.{part_of, ShareTeam, ShareLanguages, AreAlikeIn}
use Rattle.office_specification.specs.declared.parts.Part.TheVariants as parts
use Rattle.office_specification.proofs.acts.PartSteps.{one_team, same_project}
use Rattle.office_specification.proofs.domains.InDomains.{with_project-same}
use Rattle.outcomes.specs.declared.outcome.DomainOutcome.{DomainOutcome}
use Rattle.outcomes.specs.declared.outcome.OfficeOutcome.{OfficeOutcome}
use Rattle.outcomes.specs.Settled.{IsSettledIn, IsSettled, without_change}

-- ---- who may ask

not_allowed : (office : Office) (caller : Text) (stepped : Stepped Office) → is_below (role_in office.team caller) Manager ≡ true → refuse office BelowRole ≡ managed office caller stepped
not_allowed office caller stepped e = ap (λ b. cond b (refuse office BelowRole) stepped) (sym e)

allowed : (office : Office) (caller : Text) (stepped : Stepped Office) → is_below (role_in office.team caller) Manager ≡ false → stepped ≡ managed office caller stepped
allowed office caller stepped e = ap (λ b. cond b (refuse office BelowRole) stepped) (sym e)

-- who isn't a manager is refused
refused_act : (office : Office) (caller number : Text) (act : Act) → is_unit_act act ≡ false → is_below (role_in office.team caller) Manager ≡ true → refuse office BelowRole ≡ act_step office caller number act
unfolding act_step
refused_act office caller number (OnUnit domain lang key act) own below = cc
refused_act office caller number (SetTemplate domain po) own below = not_allowed office caller (in_known_domain office domain (λ project. template_step project po)) below
refused_act office caller number (AddLanguage domain lang po) own below = not_allowed office caller (in_known_domain office domain (λ project. language_step project lang po)) below
refused_act office caller number (SetRole name role) own below = not_allowed office caller (team_step office name role) below
refused_act office caller number (SetPolicy policy) own below = not_allowed office caller (policy_step office policy) below
refused_act office caller number (AddDomain domain) own below = not_allowed office caller (domain_step office domain) below

pub refused_request : (office : Office) (request : Request) → is_unit_act request.act ≡ false → is_below (role_in office.team request.caller) Manager ≡ true →
    ◌≡◌ {A = Stepped Office} (office, refused BelowRole) (step office request)
refused_request office request own below = refused_act office request.caller request.number request.act own below

-- whom the team of an office lets act or not, that of an office that is alike does too
pub same_right : (office : Office) (request : Request) (below : Bool) → is_below (role_in office.team request.caller) Manager ≡ below →
    (whole : Office) → AreAlikeIn (part_of request.act) office whole → is_below (role_in whole.team request.caller) Manager ≡ below
same_right office request below e whole alike = ap (λ team. is_below (role_in team request.caller) Manager) (sym (one_team (part_of request.act) office whole alike)) ∙ e

-- ---- a manager's acts

at_act : (office : Office) (request : Request) (act : Act) (stepped : Stepped Office) → request.act ≡ act → stepped ≡ act_step office request.caller request.number act → stepped ≡ step office request
at_act office request act stepped is steps = steps ∙ ap (act_step office request.caller request.number) (sym is)

pub template_request : (office : Office) (request : Request) (domain po : Text) → request.act ≡ SetTemplate domain po → is_below (role_in office.team request.caller) Manager ≡ false →
    in_known_domain office domain (λ project. template_step project po) ≡ step office request
unfolding act_step
template_request office request domain po is may = at_act office request (SetTemplate domain po) _ is (allowed office request.caller (in_known_domain office domain (λ project. template_step project po)) may)

pub language_request : (office : Office) (request : Request) (domain lang po : Text) → request.act ≡ AddLanguage domain lang po → is_below (role_in office.team request.caller) Manager ≡ false →
    in_known_domain office domain (λ project. language_step project lang po) ≡ step office request
unfolding act_step
language_request office request domain lang po is may = at_act office request (AddLanguage domain lang po) _ is (allowed office request.caller (in_known_domain office domain (λ project. language_step project lang po)) may)

pub role_request : (office : Office) (request : Request) (name : Text) (role : Role) → request.act ≡ SetRole name role → is_below (role_in office.team request.caller) Manager ≡ false → team_step office name role ≡ step office request
unfolding act_step
role_request office request name role is may = at_act office request (SetRole name role) (team_step office name role) is (allowed office request.caller (team_step office name role) may)

pub policy_request : (office : Office) (request : Request) (policy : Policy) → request.act ≡ SetPolicy policy → is_below (role_in office.team request.caller) Manager ≡ false → policy_step office policy ≡ step office request
unfolding act_step
policy_request office request policy is may = at_act office request (SetPolicy policy) (policy_step office policy) is (allowed office request.caller (policy_step office policy) may)

pub domain_request : (office : Office) (request : Request) (domain : Text) → request.act ≡ AddDomain domain → is_below (role_in office.team request.caller) Manager ≡ false → domain_step office domain ≡ step office request
unfolding act_step
domain_request office request domain is may = at_act office request (AddDomain domain) (domain_step office domain) is (allowed office request.caller (domain_step office domain) may)

-- ---- whether the domain is there

pub known : (office : Office) (domain : Text) (next : Project → Stepped Project) → maps.contains_key office.domains domain ≡ true →
    (with_project office domain (next (project_in office domain)).0, (next (project_in office domain)).1) ≡ in_known_domain office domain next
known office domain next e = ap (λ b. cond (not b) (refuse office NoDomain) (in_domain office domain next)) (sym e)

pub unknown : (office : Office) (domain : Text) (next : Project → Stepped Project) → maps.contains_key office.domains domain ≡ false → refuse office NoDomain ≡ in_known_domain office domain next
unknown office domain next e = ap (λ b. cond (not b) (refuse office NoDomain) (in_domain office domain next)) (sym e)

-- ---- an act in a domain, as an act on the office

-- one that changes nothing
pub still : (office : Office) (domain : Text) (outcome : DomainOutcome) (stepped : Stepped Project) → outcome.change ≡ None →
    IsSettledIn (project_in office domain) outcome stepped → IsSettled office (without_change outcome.reply) (with_project office domain stepped.0, stepped.1)
still office domain outcome stepped none settled = record { is = same ∙ ap (λ (s : Stepped Project). (with_project office domain s.0, s.1)) (unmoved ∙ settled.is); possible = tt }
  where
    same : ◌≡◌ {A = Stepped Office} (office, outcome.reply) (with_project office domain (project_in office domain), outcome.reply)
    same = ap (λ (o : Office). (o, outcome.reply)) (sym (with_project-same office domain))

    unmoved : ◌≡◌ {A = Stepped Project} (project_in office domain, outcome.reply) (changed_project_by (project_in office domain) outcome.change, outcome.reply)
    unmoved = ap (λ change. (changed_project_by (project_in office domain) change, outcome.reply)) (sym none)

-- what is settled of the domain that is lent is settled of each office that has it
pub settled_in : {E : Type 0} (r : Result OfficeOutcome E) (office : Office) (domain : Text) (lent : Project) (outcome : DomainOutcome) (next : Project → Stepped Project) →
    maps.contains_key office.domains domain ≡ true → lent ≡ project_in office domain → IsSettledIn lent outcome (next lent) →
    IfOk r (λ told. (o : Office) → (stepped : Stepped Project) → maps.contains_key o.domains domain ≡ true → IsSettledIn (project_in o domain) outcome stepped → IsSettled o told (with_project o domain stepped.0, stepped.1)) →
    IfOk r (λ told. (whole : Office) → AreAlikeIn (parts.Domain domain) office whole → IsSettled whole told (in_known_domain whole domain next))
settled_in (Ok told) office domain lent outcome next there its settled each = λ whole alike.
    let here : maps.contains_key whole.domains domain ≡ true = sym (alike.0.domains domain) ∙ there in
    let own : lent ≡ project_in whole domain = its ∙ same_project office whole domain alike.0 alike.1 in
    subst (λ (s : Stepped Office). IsSettled whole told s) (known whole domain next here)
    (each whole (next (project_in whole domain)) here (subst (λ (project : Project). IsSettledIn project outcome (next project)) own settled))
settled_in (Err fault) office domain lent outcome next there its settled each = tt

-- the same where the domain's units don't matter
pub settled_but_units : {E : Type 0} (r : Result OfficeOutcome E) (office : Office) (domain : Text) (lent : Project) (outcome : DomainOutcome) (next : Project → Stepped Project) →
    maps.contains_key office.domains domain ≡ true → lent ≡ project_in office domain → ((whole : Project) → ShareLanguages lent whole → IsSettledIn whole outcome (next whole)) →
    IfOk r (λ told. (o : Office) → (stepped : Stepped Project) → maps.contains_key o.domains domain ≡ true → IsSettledIn (project_in o domain) outcome stepped → IsSettled o told (with_project o domain stepped.0, stepped.1)) →
    IfOk r (λ told. (whole : Office) → AreAlikeIn (parts.Languages domain) office whole → IsSettled whole told (in_known_domain whole domain next))
settled_but_units (Ok told) office domain lent outcome next there its settled each = λ whole alike.
    let here : maps.contains_key whole.domains domain ≡ true = sym (alike.0.domains domain) ∙ there in
    let own : ShareLanguages lent (project_in whole domain) = subst (λ (project : Project). ShareLanguages project (project_in whole domain)) (sym its) alike.1 in
    subst (λ (s : Stepped Office). IsSettled whole told s) (known whole domain next here)
    (each whole (next (project_in whole domain)) here (settled (project_in whole domain) own))
settled_but_units (Err fault) office domain lent outcome next there its settled each = tt

-- and so is that the domain isn't there
pub unknown_there : (office whole : Office) (domain : Text) (next : Project → Stepped Project) → ShareTeam office whole → maps.contains_key office.domains domain ≡ false →
    ◌≡◌ {A = Stepped Office} (whole, refused NoDomain) (in_known_domain whole domain next)
unknown_there office whole domain next alike none = unknown whole domain next (sym (alike.domains domain) ∙ none)
