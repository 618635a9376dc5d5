use Rattle.std.proofs.Common.{◌≡◌, Bool, true, false, cond, ap, subst, sym, ◌∙◌, refl}
use Rattle.std.specs.Prelude.{nat_le, Some}
use Rattle.po_text.specs.Texts.{Text}
use Rattle.std.specs.FinMap as maps
use Rattle.units.specs.Limits.{domain_limit}
use Rattle.units.specs.Units.{is_below}
use Rattle.units.specs.Project.{role_in}
use Rattle.units.specs.Office.{Office, empty_domain}
use Rattle.units.specs.Orders.{text_total}
use Rattle.units.specs.Changes.{with_domain}
use Rattle.units.specs.declared.unit.Role.TheVariants.{Manager}
use Rattle.units.specs.declared.unit.Refusal.TheVariants.{BelowRole, PastLimit, DomainExists}
use Rattle.request_book.specs.declared.act.Act.{Act}
use Rattle.request_book.specs.declared.act.Act.TheVariants.{AddDomain}
use Rattle.replies.specs.Bodies.{Stepped, refuse, reply, domain_fields}
use Rattle.office_specification.specs.Laws.{DiffersIn}
use Rattle.office_specification.specs.Step.{act_step}
use Rattle.office_specification.proofs.laws.domain_request_leaves_domains.Goals as goal

-- what a request makes of an office, by the questions that decide it
abbrev made : Office → Text → (below there many : Bool) → Stepped Office
made office domain below there many =
    cond below (refuse office BelowRole) (cond there (refuse office DomainExists) (cond many (refuse office PastLimit) (with_domain office domain, reply 200 (domain_fields domain))))

differs : (office : Office) (domain : Text) (below there many : Bool) → DiffersIn domain office (made office domain below there many).0
differs office domain true there many = record { team = refl; policy = refl; others = λ other apart. refl }
differs office domain false true many = record { team = refl; policy = refl; others = λ other apart. refl }
differs office domain false false true = record { team = refl; policy = refl; others = λ other apart. refl }
differs office domain false false false = record {
  team = refl;
  policy = refl;
  others = λ other apart. maps.get-insert text_total office.domains domain empty_domain other ∙ ap (λ c. cond c (Some empty_domain) (maps.get office.domains other)) apart;
}

stays : (office : Office) (domain : Text) (below there many : Bool) → there ≡ true → (made office domain below there many).0 ≡ office
stays office domain true there many is = refl
stays office domain false true many is = refl
stays office domain false false many is = cc

differs_by : (office : Office) (caller number : Text) (domain : Text) (act : Act) → act ≡ AddDomain domain → DiffersIn domain office (act_step office caller number act).0
unfolding act_step
differs_by office caller number domain act is =
    subst (λ (a : Act). DiffersIn domain office (act_step office caller number a).0) (sym is)
    (differs office domain (is_below (role_in office.team caller) Manager) (maps.contains_key office.domains domain) (nat_le domain_limit (maps.len office.domains)))

stays_by : (office : Office) (caller number : Text) (domain : Text) (act : Act) → act ≡ AddDomain domain → maps.contains_key office.domains domain ≡ true → (act_step office caller number act).0 ≡ office
unfolding act_step
stays_by office caller number domain act is there =
    subst (λ (a : Act). (act_step office caller number a).0 ≡ office) (sym is)
    (stays office domain (is_below (role_in office.team caller) Manager) (maps.contains_key office.domains domain) (nat_le domain_limit (maps.len office.domains)) there)

pub returns-clause-others : goal.returns-clause-others
returns-clause-others c = λ office request domain is. differs_by office request.caller request.number domain request.act is

pub returns-clause-there : goal.returns-clause-there
returns-clause-there c = λ office request domain is there. stays_by office request.caller request.number domain request.act is there
