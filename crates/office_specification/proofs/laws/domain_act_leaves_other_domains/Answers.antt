use Rattle.std.proofs.Common.{◌≡◌, Bool, true, false, cond, not, ap, subst, refl}
use Rattle.po_text.specs.Texts.{Text}
use Rattle.std.specs.FinMap as maps
use Rattle.units.specs.Units.{is_below}
use Rattle.units.specs.Project.{Project, role_in}
use Rattle.units.specs.Office.{Office, project_in}
use Rattle.units.specs.declared.unit.Role.TheVariants.{Manager}
use Rattle.units.specs.declared.unit.Refusal.TheVariants.{BelowRole, NoDomain}
use Rattle.request_book.specs.declared.act.Act.{Act}
use Rattle.request_book.specs.declared.act.Act.TheVariants.{OnUnit, SetTemplate, AddLanguage, SetRole, SetPolicy, AddDomain}
use Rattle.request_book.specs.Clash.{Scope, scope_of, of_office, of_domain, of_unit}
use Rattle.replies.specs.Bodies.{Stepped, refuse}
use Rattle.office_specification.specs.Laws.{DiffersIn}
use Rattle.office_specification.specs.ProjectActs.{template_step, language_step}
use Rattle.office_specification.specs.Step.{act_step, in_domain, in_known_domain}
use Rattle.office_specification.proofs.domains.InDomains.{get_elsewhere}
use Rattle.office_specification.proofs.laws.domain_act_leaves_other_domains.Goals as goal

same_office : (office : Office) (domain : Text) → DiffersIn domain office office
same_office office domain = record { team = refl; policy = refl; others = λ other apart. refl }

known : (office : Office) (caller domain : Text) (next : Project → Stepped Project) →
    DiffersIn domain office (cond (is_below (role_in office.team caller) Manager) (refuse office BelowRole) (in_known_domain office domain next)).0
known office caller domain next = by (is_below (role_in office.team caller) Manager) (maps.contains_key office.domains domain)
  where
    by : (below there : Bool) → DiffersIn domain office (cond below (refuse office BelowRole) (cond (not there) (refuse office NoDomain) (in_domain office domain next))).0
    by true there = same_office office domain
    by false false = same_office office domain
    by false true = record { team = refl; policy = refl; others = λ other apart. get_elsewhere office domain other (next (project_in office domain)).0 apart }

abbrev its_domain : Scope → Text → Text
its_domain of_office other = other
its_domain (of_domain domain) other = domain
its_domain (of_unit place) other = other

by_act : (office : Office) (caller number : Text) (domain : Text) (act : Act) → scope_of act ≡ of_domain domain → DiffersIn domain office (act_step office caller number act).0
unfolding act_step
by_act office caller number domain (OnUnit own lang key act) e = cc
by_act office caller number domain (SetTemplate own po) e =
    let same : own ≡ domain = ap (λ s. its_domain s own) e in
    subst (λ (d : Text). DiffersIn d office (act_step office caller number (SetTemplate own po)).0) same (known office caller own (λ project. template_step project po))
by_act office caller number domain (AddLanguage own lang po) e =
    let same : own ≡ domain = ap (λ s. its_domain s own) e in
    subst (λ (d : Text). DiffersIn d office (act_step office caller number (AddLanguage own lang po)).0) same (known office caller own (λ project. language_step project lang po))
by_act office caller number domain (SetRole name role) e = cc
by_act office caller number domain (SetPolicy policy) e = cc
by_act office caller number domain (AddDomain own) e = cc

pub returns : goal.returns
returns c = λ office request domain is. by_act office request.caller request.number domain request.act is
