-- Requests that don't clash give the same office and the same replies in either order: those of two domains, and those on two units of
-- one domain.
use Rattle.std.proofs.Common.{◌≡◌, Bool, true, false, cond, refl, sym, ◌∙◌, ap, subst}
use Rattle.std.specs.Prelude.{not}
use Rattle.std.specs.Cmp.{eq_by_cmp_equiv}
use Rattle.std.specs.FinMap as maps
use Rattle.po_text.specs.Texts.{Text}
use Rattle.units.specs.Units.{is_below}
use Rattle.units.specs.Project.{Project, Place, place_eq, role_of}
use Rattle.units.specs.Office.{Office, office_place_eq, same_domain, project_in, with_project}
use Rattle.units.specs.Orders.{place_total, office_place_total}
use Rattle.units.specs.declared.unit.Key.{Key}
use Rattle.units.specs.declared.unit.UnitAct.{UnitAct}
use Rattle.units.specs.declared.unit.Role.TheVariants.{Manager}
use Rattle.units.specs.declared.unit.Refusal.{Refusal}
use Rattle.units.specs.declared.unit.Refusal.TheVariants.{BelowRole, NoDomain}
use Rattle.request_book.specs.declared.act.Act.{Act}
use Rattle.request_book.specs.declared.act.Act.TheVariants.{OnUnit, SetTemplate, AddLanguage, SetRole, SetPolicy, AddDomain}
use Rattle.request_book.specs.declared.act.Request.{Request}
use Rattle.request_book.specs.Clash.{clash, scope_of, overlap}
use Rattle.replies.specs.Bodies.{Stepped, refuse}
use Rattle.office_specification.specs.ProjectActs.{unit_act_step, template_step, language_step}
use Rattle.office_specification.specs.Step.{step, act_step, in_domain}
use Rattle.office_specification.specs.Laws.{GoInEitherOrder}
use Rattle.office_specification.proofs.acts.Ends.{ends_with}
use Rattle.office_specification.proofs.acts.ProjectEnds.{Shares, unit_act_ends}
use Rattle.office_specification.proofs.acts.UnitActs.{apart_in}
use Rattle.office_specification.proofs.commuting.Apart.{either_order}
use Rattle.office_specification.proofs.domains.InDomains.{contains-put_there, project_elsewhere, project_own, nothing_put, with_project-either, with_project-again, with_project-same, equal_domains, apart_back}

-- ---- an act in a domain, by whether the domain is there and by its project

abbrev Next : Type 0
Next = Bool → Project → Stepped Project

abbrev by_domain : Office → Text → Next → Stepped Office
by_domain office domain next = let after = next (maps.contains_key office.domains domain) (project_in office domain) in (with_project office domain after.0, after.1)

-- a template or language request
abbrev managed_in : Text → (Project → Stepped Project) → Next
managed_in caller next known project = cond (is_below (role_of project caller) Manager) (refuse project BelowRole) (cond (not known) (refuse project NoDomain) (next project))

refused_in : (office : Office) (domain : Text) (refusal : Refusal) → refuse office refusal ≡ (with_project office domain (project_in office domain), (refuse office refusal).1)
refused_in office domain refusal = ap (λ (o : Office). (o, (refuse office refusal).1)) (sym (with_project-same office domain))

managed_in-is : (office : Office) (caller domain : Text) (next : Project → Stepped Project) →
    cond (is_below (role_of (project_in office domain) caller) Manager) (refuse office BelowRole) (cond (not (maps.contains_key office.domains domain)) (refuse office NoDomain) (in_domain office domain next))
    ≡ by_domain office domain (managed_in caller next)
managed_in-is office caller domain next = by (is_below (role_of (project_in office domain) caller) Manager) (maps.contains_key office.domains domain)
  where
    by : (below there : Bool) → cond below (refuse office BelowRole) (cond (not there) (refuse office NoDomain) (in_domain office domain next))
        ≡ (let after : Stepped Project = cond below (refuse (project_in office domain) BelowRole) (cond (not there) (refuse (project_in office domain) NoDomain) (next (project_in office domain))) in (with_project office domain after.0, after.1))
    by true there = refused_in office domain BelowRole
    by false false = refused_in office domain NoDomain
    by false true = refl

-- a request's step is one in a domain
abbrev StepsIn : Request → Text → Next → Type 0
StepsIn x domain next = (office : Office) → step office x ≡ by_domain office domain next

abbrev with_act : Request → Act → Request
with_act x act = record x { act = act }

abbrev unit_next : Request → Text → Key → UnitAct → Next
unit_next x lang key act known project = unit_act_step project x.caller x.number (lang, key) act

abbrev template_next : Request → Text → Next
template_next x po = managed_in x.caller (λ project. template_step project po)

abbrev language_next : Request → Text → Text → Next
language_next x lang po = managed_in x.caller (λ project. language_step project lang po)

unit_in : (x : Request) (domain lang : Text) (key : Key) (act : UnitAct) → StepsIn (with_act x (OnUnit domain lang key act)) domain (unit_next x lang key act)
unfolding act_step
unit_in x domain lang key act office = refl

template_in : (x : Request) (domain po : Text) → StepsIn (with_act x (SetTemplate domain po)) domain (template_next x po)
unfolding act_step
template_in x domain po office = managed_in-is office x.caller domain (λ project. template_step project po)

language_in : (x : Request) (domain lang po : Text) → StepsIn (with_act x (AddLanguage domain lang po)) domain (language_next x lang po)
unfolding act_step
language_in x domain lang po office = managed_in-is office x.caller domain (λ project. language_step project lang po)

-- ---- acts in two domains

-- an act after one in another domain
after_other : (office : Office) (domain other : Text) (f g : Next) → same_domain other domain ≡ false →
    by_domain (by_domain office domain f).0 other g
    ≡ (with_project (by_domain office domain f).0 other (g (maps.contains_key office.domains other) (project_in office other)).0, (g (maps.contains_key office.domains other) (project_in office other)).1)
after_other office domain other f g apart =
    let first : Project = (f (maps.contains_key office.domains domain) (project_in office domain)).0 in
    let after : Office = (by_domain office domain f).0 in
    ap (λ (s : Stepped Project). (with_project after other s.0, s.1))
    (ap (λ known. g known (project_in after other)) (contains-put_there office.domains domain _ other) ∙ ap (g (maps.contains_key office.domains other)) (project_elsewhere office domain other first apart))

pub between : (office : Office) (x y : Request) (domain other : Text) (f g : Next) → StepsIn x domain f → StepsIn y other g → same_domain other domain ≡ false → GoInEitherOrder office x y
between office x y domain other f g own its apart =
    let one : step (step office x).0 y ≡ _ = its (step office x).0 ∙ (ap (λ (s : Stepped Office). by_domain s.0 other g) (own office) ∙ after_other office domain other f g apart) in
    let two : step (step office y).0 x ≡ _ = own (step office y).0 ∙ (ap (λ (s : Stepped Office). by_domain s.0 domain f) (its office) ∙ after_other office other domain g f (apart_back other domain apart)) in
    record {
      left = ap (λ (s : Stepped Office). s.0) one
          ∙ (with_project-either office domain other (f (maps.contains_key office.domains domain) (project_in office domain)).0 (g (maps.contains_key office.domains other) (project_in office other)).0 apart
          ∙ sym (ap (λ (s : Stepped Office). s.0) two));
      second = ap (λ (s : Stepped Office). s.1) one ∙ sym (ap (λ (s : Stepped Office). s.1) (its office));
      first = ap (λ (s : Stepped Office). s.1) two ∙ sym (ap (λ (s : Stepped Office). s.1) (own office));
    }

-- ---- acts on two units of one domain

abbrev on_unit : Office → Text → Text → Text → Place → UnitAct → Stepped Office
on_unit office domain caller number place act = in_domain office domain (λ project. unit_act_step project caller number place act)

-- an act after one in the same domain, which is there
after_own : (office : Office) (domain x y a b : Text) (place other : Place) (act action : UnitAct) → maps.contains_key office.domains domain ≡ true →
    on_unit (on_unit office domain x a place act).0 domain y b other action
    ≡ (let after = unit_act_step (unit_act_step (project_in office domain) x a place act).0 y b other action in (with_project office domain after.0, after.1))
after_own office domain x y a b place other act action there =
    let project : Project = project_in office domain in
    let first : Project = (unit_act_step project x a place act).0 in
    let shares : Shares project first = ends_with (Shares project) project _ (refl, refl) (unit_act_ends project x a place act) in
    ap (λ (p : Project). let after = unit_act_step p y b other action in (with_project (with_project office domain first) domain after.0, after.1)) (project_own office domain first there shares)
    ∙ ap (λ (o : Office). (o, (unit_act_step first y b other action).1)) (with_project-again office domain first (unit_act_step first y b other action).0)

-- in a domain that isn't there nothing changes
after_none : (office : Office) (domain x y a b : Text) (place other : Place) (act action : UnitAct) → maps.contains_key office.domains domain ≡ false →
    on_unit (on_unit office domain x a place act).0 domain y b other action ≡ on_unit office domain y b other action
after_none office domain x y a b place other act action missing = ap (λ (o : Office). on_unit o domain y b other action) (nothing_put office domain (unit_act_step (project_in office domain) x a place act).0 missing)

abbrev GoUnits : Office → Text → Text → Text → Text → Text → Place → Place → UnitAct → UnitAct → Type 0
GoUnits office domain x y a b place other act action =
    ((on_unit (on_unit office domain x a place act).0 domain y b other action).0 ≡ (on_unit (on_unit office domain y b other action).0 domain x a place act).0)
    × ((on_unit (on_unit office domain x a place act).0 domain y b other action).1 ≡ (on_unit office domain y b other action).1)
    × ((on_unit (on_unit office domain y b other action).0 domain x a place act).1 ≡ (on_unit office domain x a place act).1)

within : (office : Office) (domain x y a b : Text) (place other : Place) (act action : UnitAct) → place_eq other place ≡ false → place_eq place other ≡ false → GoUnits office domain x y a b place other act action
within office domain x y a b place other act action apart apart' = by (maps.contains_key office.domains domain) refl
  where
    by : (there : Bool) → maps.contains_key office.domains domain ≡ there → GoUnits office domain x y a b place other act action
    by true h =
        let both = either_order (project_in office domain) x y a b place other act action apart apart' in
        let one = after_own office domain x y a b place other act action h in
        let two = after_own office domain y x b a other place action act h in (
          ap (λ (s : Stepped Office). s.0) one ∙ (ap (with_project office domain) both.0 ∙ sym (ap (λ (s : Stepped Office). s.0) two)),
          ap (λ (s : Stepped Office). s.1) one ∙ both.1,
          ap (λ (s : Stepped Office). s.1) two ∙ both.2,
        )
    by false h =
        let one = after_none office domain x y a b place other act action h in
        let two = after_none office domain y x b a other place action act h in
        let first = nothing_put office domain (unit_act_step (project_in office domain) x a place act).0 h in
        let second = nothing_put office domain (unit_act_step (project_in office domain) y b other action).0 h in (
          ap (λ (s : Stepped Office). s.0) one ∙ (second ∙ (sym first ∙ sym (ap (λ (s : Stepped Office). s.0) two))),
          ap (λ (s : Stepped Office). s.1) one,
          ap (λ (s : Stepped Office). s.1) two,
        )

on_units : (office : Office) (x y : Request) (domain lang other_lang : Text) (key other_key : Key) (a b : UnitAct) → place_eq (other_lang, other_key) (lang, key) ≡ false →
    GoInEitherOrder office (with_act x (OnUnit domain lang key a)) (with_act y (OnUnit domain other_lang other_key b))
unfolding act_step
on_units office x y domain lang other_lang key other_key a b apart =
    let both = within office domain x.caller y.caller x.number y.number (lang, key) (other_lang, other_key) a b apart ((eq_by_cmp_equiv place_total).symm (lang, key) (other_lang, other_key) ∙ apart) in
    record { left = both.0; second = both.1; first = both.2 }

units : (office : Office) (x y : Request) (domain lang other other_lang : Text) (key other_key : Key) (a b : UnitAct) → office_place_eq (domain, (lang, key)) (other, (other_lang, other_key)) ≡ false →
    GoInEitherOrder office (with_act x (OnUnit domain lang key a)) (with_act y (OnUnit other other_lang other_key b))
units office x y domain lang other other_lang key other_key a b apart = by (same_domain other domain) refl
  where
    by : (tie : Bool) → same_domain other domain ≡ tie → GoInEitherOrder office (with_act x (OnUnit domain lang key a)) (with_act y (OnUnit other other_lang other_key b))
    by true t =
        let same = equal_domains other domain t in
        let differs : place_eq (other_lang, other_key) (lang, key) ≡ false =
        sym (apart_in domain (lang, key) (other_lang, other_key))
        ∙ (ap (λ d. office_place_eq (d, (other_lang, other_key)) (domain, (lang, key))) (sym same) ∙ ((eq_by_cmp_equiv office_place_total).symm (other, (other_lang, other_key)) (domain, (lang, key)) ∙ apart)) in
        subst (λ (d : Text). GoInEitherOrder office (with_act x (OnUnit domain lang key a)) (with_act y (OnUnit d other_lang other_key b))) (sym same)
        (on_units office x y domain lang other_lang key other_key a b differs)
    by false t =
        between office (with_act x (OnUnit domain lang key a)) (with_act y (OnUnit other other_lang other_key b)) domain other (unit_next x lang key a) (unit_next y other_lang other_key b)
        (unit_in x domain lang key a) (unit_in y other other_lang other_key b) t

-- ---- all requests

pub either : (o : Office) (x y : Request) → clash x y ≡ false → GoInEitherOrder o x y
either o x y c = by_acts x.act y.act c
  where
    by_acts : (a b : Act) → overlap (scope_of a) (scope_of b) ≡ false → GoInEitherOrder o (with_act x a) (with_act y b)
    by_acts (OnUnit domain lang key a) (OnUnit other other_lang other_key b) c = units o x y domain lang other other_lang key other_key a b c
    by_acts (OnUnit domain lang key a) (SetTemplate other po) c =
        between o (with_act x (OnUnit domain lang key a)) (with_act y (SetTemplate other po)) domain other (unit_next x lang key a) (template_next y po) (unit_in x domain lang key a) (template_in y other po) (apart_back domain other c)
    by_acts (OnUnit domain lang key a) (AddLanguage other other_lang po) c =
        between o (with_act x (OnUnit domain lang key a)) (with_act y (AddLanguage other other_lang po)) domain other (unit_next x lang key a) (language_next y other_lang po) (unit_in x domain lang key a) (language_in y other other_lang po) (apart_back domain other c)
    by_acts (SetTemplate domain po) (OnUnit other lang key b) c =
        between o (with_act x (SetTemplate domain po)) (with_act y (OnUnit other lang key b)) domain other (template_next x po) (unit_next y lang key b) (template_in x domain po) (unit_in y other lang key b) (apart_back domain other c)
    by_acts (SetTemplate domain po) (SetTemplate other text) c =
        between o (with_act x (SetTemplate domain po)) (with_act y (SetTemplate other text)) domain other (template_next x po) (template_next y text) (template_in x domain po) (template_in y other text) (apart_back domain other c)
    by_acts (SetTemplate domain po) (AddLanguage other lang text) c =
        between o (with_act x (SetTemplate domain po)) (with_act y (AddLanguage other lang text)) domain other (template_next x po) (language_next y lang text) (template_in x domain po) (language_in y other lang text) (apart_back domain other c)
    by_acts (AddLanguage domain own po) (OnUnit other lang key b) c =
        between o (with_act x (AddLanguage domain own po)) (with_act y (OnUnit other lang key b)) domain other (language_next x own po) (unit_next y lang key b) (language_in x domain own po) (unit_in y other lang key b) (apart_back domain other c)
    by_acts (AddLanguage domain own po) (SetTemplate other text) c =
        between o (with_act x (AddLanguage domain own po)) (with_act y (SetTemplate other text)) domain other (language_next x own po) (template_next y text) (language_in x domain own po) (template_in y other text) (apart_back domain other c)
    by_acts (AddLanguage domain own po) (AddLanguage other lang text) c =
        between o (with_act x (AddLanguage domain own po)) (with_act y (AddLanguage other lang text)) domain other (language_next x own po) (language_next y lang text) (language_in x domain own po) (language_in y other lang text) (apart_back domain other c)
    by_acts (OnUnit domain lang key a) (SetRole name role) c = cc
    by_acts (OnUnit domain lang key a) (SetPolicy policy) c = cc
    by_acts (OnUnit domain lang key a) (AddDomain other) c = cc
    by_acts (SetTemplate domain po) (SetRole name role) c = cc
    by_acts (SetTemplate domain po) (SetPolicy policy) c = cc
    by_acts (SetTemplate domain po) (AddDomain other) c = cc
    by_acts (AddLanguage domain lang po) (SetRole name role) c = cc
    by_acts (AddLanguage domain lang po) (SetPolicy policy) c = cc
    by_acts (AddLanguage domain lang po) (AddDomain other) c = cc
    by_acts (SetRole name role) b c = cc
    by_acts (SetPolicy policy) b c = cc
    by_acts (AddDomain domain) b c = cc
