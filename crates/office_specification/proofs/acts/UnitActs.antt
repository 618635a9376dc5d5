-- A unit act reads what is found for it in its domain and nothing else, and changes its unit and nothing else.
use Rattle.std.proofs.Common.{◌≡◌, Bool, true, false, cond, refl, sym, ◌∙◌, ap, subst, Option, Some, None}
use Rattle.std.specs.Prelude.{not, is_some, option_map}
use Rattle.std.specs.Option.{option_map_or}
use Rattle.std.specs.Ordering.{is_eq, ordering_then}
use Rattle.std.specs.FinMap as maps
use Rattle.po_text.specs.Texts.{Text}
use Rattle.po_text.specs.declared.entry.Entry.{Entry}
use Rattle.units.specs.Project.{Project, Place, place_cmp, place_eq, role_of, view_of}
use Rattle.units.specs.Office.{Office, office_place_eq, same_domain, project_in, with_project}
use Rattle.units.specs.Orders.{place_total}
use Rattle.units.specs.Rules.{rule_at}
use Rattle.units.specs.declared.unit.Key.{Key}
use Rattle.units.specs.declared.unit.UnitAct.{UnitAct}
use Rattle.units.specs.declared.unit.UnitView.{UnitView}
use Rattle.units.specs.declared.unit.Refusal.TheVariants.{NoLanguage, NoUnit}
use Rattle.review.specs.declared.decision.Decision.{Decision}
use Rattle.review.specs.declared.decision.Decision.TheVariants.{Done, Refused}
use Rattle.review.specs.UnitStep.{unit_step}
use Rattle.request_book.specs.declared.act.Act.TheVariants.{OnUnit}
use Rattle.request_book.specs.declared.act.Request.{Request}
use Rattle.request_book.specs.Replies.{Reply}
use Rattle.request_book.specs.Acts.{content_text}
use Rattle.request_book.specs.Book.{OfficeWithBook, with_record}
use Rattle.office_specification.specs.declared.values.ActContext.{ActContext}
use Rattle.office_specification.specs.declared.values.Outcome.{Outcome}
use Rattle.office_specification.specs.UnitAccess.{context_of, with_view, with_view_in}
use Rattle.office_specification.specs.UnitOutcomes.{outcome_of, outcome_of_decision}
use Rattle.replies.specs.Bodies.{Stepped, refuse}
use Rattle.office_specification.specs.ProjectActs.{unit_act_step, decided}
use Rattle.office_specification.specs.Step.{step, act_step}
use Rattle.office_specification.specs.Deliveries.{first_delivered}
use Rattle.office_specification.specs.Laws.{DiffersAt}
use Rattle.office_specification.proofs.domains.InDomains.{contains-put_there, project_elsewhere, project_own, nothing_put, tied_domains, equal_domains, its_own_domain}

-- the project with an outcome's view, and its reply
abbrev pub settled : Project → Text → Key → Outcome → Stepped Project
settled project lang key outcome = (with_view project lang key outcome.view, outcome.reply)

pub unit_act_step-is : (project : Project) (caller number lang : Text) (key : Key) (act : UnitAct) →
    unit_act_step project caller number (lang, key) act ≡ settled project lang key (outcome_of (context_of project lang key caller) caller number act)
unit_act_step-is project caller number lang key act = by_header (maps.get project.headers lang) (view_of project (lang, key))
  where
    by_decision : (d : Decision) → decided project (lang, key) d ≡ settled project lang key (outcome_of_decision d)
    by_decision (Done view values) = refl
    by_decision (Refused refusal) = refl

    by_header : (header : Option Entry) (view : Option UnitView) →
        cond (not (is_some header)) (refuse project NoLanguage)
        (option_map_or (λ v. decided project (lang, key) (unit_step project.policy (rule_at project lang) (role_of project caller) caller number v act)) view (refuse project NoUnit))
        ≡ settled project lang key
        (outcome_of (option_map (λ h. record { rule = rule_at project lang; policy = project.policy; role = role_of project caller; view = view }) header) caller number act)
    by_header None view = refl
    by_header (Some h) None = refl
    by_header (Some h) (Some v) = by_decision (unit_step project.policy (rule_at project lang) (role_of project caller) caller number v act)

-- ---- a unit act whose number is new: what was found, decided and committed is the step with its record

abbrev settled_in : Office → Text → Text → Key → Outcome → Stepped Office
settled_in office domain lang key outcome = (with_view_in office domain lang key outcome.view, outcome.reply)

abbrev outcome_in : Office → Text → Text → Key → Request → UnitAct → Outcome
outcome_in office domain lang key request act = outcome_of (context_of (project_in office domain) lang key request.caller) request.caller request.number act

act_step_on_unit-is : (office : Office) (request : Request) (domain lang : Text) (key : Key) (act : UnitAct) → request.act ≡ OnUnit domain lang key act →
    step office request ≡ settled_in office domain lang key (outcome_in office domain lang key request act)
unfolding act_step
act_step_on_unit-is office request domain lang key act is =
    ap (act_step office request.caller request.number) is
    ∙ ap (λ (s : Stepped Project). (with_project office domain s.0, s.1)) (unit_act_step-is (project_in office domain) request.caller request.number lang key act)

pub recorded_unit_act : (old mid new : OfficeWithBook) (request : Request) (domain lang : Text) (key : Key) (act : UnitAct) (found : Option ActContext) (view : Option UnitView) (reply kept : Reply) (content : Text) →
    request.act ≡ OnUnit domain lang key act → mid ≡ old → found ≡ context_of (project_in old.office domain) lang key request.caller →
    record { view = view; reply = reply } ≡ outcome_of found request.caller request.number act →
    kept ≡ reply → content ≡ content_text request →
    new ≡ record { office = with_view_in mid.office domain lang key view; book = with_record mid.book (record { number = request.number; content = content; reply = kept }) } →
    ◌≡◌ {A = OfficeWithBook × Reply} (new, reply) (first_delivered old request)
recorded_unit_act old mid new request domain lang key act found view reply kept content is same answer decides copy text commits =
    let outcome : Outcome = record { view = view; reply = reply } in
    let stepped : settled_in old.office domain lang key outcome ≡ step old.office request =
    ap (settled_in old.office domain lang key) (decides ∙ ap (λ f. outcome_of f request.caller request.number act) answer)
    ∙ sym (act_step_on_unit-is old.office request domain lang key act is) in
    let now : new ≡ record { office = (step old.office request).0; book = with_record old.book (record { number = request.number; content = content_text request; reply = (step old.office request).1 }) } =
    commits ∙ (λ i. record {
      office = (ap (λ (m : OfficeWithBook). with_view_in m.office domain lang key view) same ∙ ap (λ (s : Stepped Office). s.0) stepped) i;
      book = with_record (same i).book (record { number = request.number; content = text i; reply = (copy ∙ ap (λ (s : Stepped Office). s.1) stepped) i });
    }) in
    λ i. (now i, (ap (λ (s : Stepped Office). s.1) stepped) i)

-- ---- what an act on a unit leaves alone

-- of the project
pub record RestStays (place : Place) (old new : Project) : Type 0 where
  pub template : new.template ≡ old.template
  pub headers : new.headers ≡ old.headers
  pub team : new.team ≡ old.team
  pub policy : new.policy ≡ old.policy
  pub others : (other : Place) → place_eq other place ≡ false → maps.get new.units other ≡ maps.get old.units other

pub rest_stays : (project : Project) (lang : Text) (key : Key) (view : Option UnitView) → RestStays (lang, key) project (with_view project lang key view)
rest_stays project lang key None = record { template = refl; headers = refl; team = refl; policy = refl; others = λ other apart. refl }
rest_stays project lang key (Some v) = record {
  template = refl;
  headers = refl;
  team = refl;
  policy = refl;
  others = λ other apart. maps.get-insert place_total project.units (lang, key) v.unit other ∙ ap (λ c. cond c (Some v.unit) (maps.get project.units other)) apart;
}

-- places that differ in one domain
pub apart_in : (domain : Text) (place other : Place) → office_place_eq (domain, other) (domain, place) ≡ place_eq other place
apart_in domain place other = ap (λ c. is_eq (ordering_then c (place_cmp other place))) (tied_domains domain domain (its_own_domain domain))

-- of the office, where a project whose rest stays is put into a domain
pub office_rest_stays : (office : Office) (domain : Text) (place : Place) (new : Project) → RestStays place (project_in office domain) new → DiffersAt (domain, place) office (with_project office domain new)
office_rest_stays office domain place new rest = record {
  team = refl;
  policy = refl;
  domains = λ other. contains-put_there office.domains domain _ other;
  template = λ other. by other (λ p. p.template) rest.template (same_domain other domain) refl (maps.contains_key office.domains domain) refl;
  headers = λ other. by other (λ p. p.headers) rest.headers (same_domain other domain) refl (maps.contains_key office.domains domain) refl;
  others = λ other q apart. by_unit other q apart (same_domain other domain) refl (maps.contains_key office.domains domain) refl;
}
  where
    by : {A : Type 0} (other : Text) (part : Project → A) → part new ≡ part (project_in office domain) → (tie : Bool) → same_domain other domain ≡ tie → (there : Bool) → maps.contains_key office.domains domain ≡ there →
        part (project_in (with_project office domain new) other) ≡ part (project_in office other)
    by other part same true t true h =
        subst (λ (d : Text). part (project_in (with_project office domain new) d) ≡ part (project_in office d)) (sym (equal_domains other domain t))
        (ap part (project_own office domain new h (rest.team, rest.policy)) ∙ same)
    by other part same true t false h = ap (λ (o : Office). part (project_in o other)) (nothing_put office domain new h)
    by other part same false t there h = ap part (project_elsewhere office domain other new t)

    by_unit : (other : Text) (q : Place) → office_place_eq (other, q) (domain, place) ≡ false → (tie : Bool) → same_domain other domain ≡ tie → (there : Bool) → maps.contains_key office.domains domain ≡ there →
        maps.get (project_in (with_project office domain new) other).units q ≡ maps.get (project_in office other).units q
    by_unit other q apart true t true h =
        let same = equal_domains other domain t in
        let differs : place_eq q place ≡ false = sym (apart_in domain place q) ∙ (ap (λ d. office_place_eq (d, q) (domain, place)) (sym same) ∙ apart) in
        subst (λ (d : Text). maps.get (project_in (with_project office domain new) d).units q ≡ maps.get (project_in office d).units q) (sym same)
        (ap (λ (p : Project). maps.get p.units q) (project_own office domain new h (rest.team, rest.policy)) ∙ rest.others q differs)
    by_unit other q apart true t false h = ap (λ (o : Office). maps.get (project_in o other).units q) (nothing_put office domain new h)
    by_unit other q apart false t there h = ap (λ (p : Project). maps.get p.units q) (project_elsewhere office domain other new t)
