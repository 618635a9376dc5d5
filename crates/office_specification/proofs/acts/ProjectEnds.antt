-- An act in a domain is refused and changes nothing, or is answered with 200 and leaves team and policy.
use Rattle.std.proofs.Common.{◌≡◌, List, Bool, true, false, cond, not, Option, Some, None, Result, Ok, Err, map, refl, []}
use Rattle.std.specs.Prelude.{nat_le, find}
use Rattle.std.specs.Option.{option_map_or}
use Rattle.std.specs.FinMap as maps
use Rattle.po_text.specs.declared.entry.Entry.{Entry}
use Rattle.po_text.specs.Entries.{is_header}
use Rattle.po_read.specs.Faults.{Fault}
use Rattle.po_read.specs.Plain.{reading_of}
use Rattle.po_read.specs.Spells.{limits}
use Rattle.po_text.specs.Texts.{Text}
use Rattle.plural_expr.specs.Values.{Rule}
use Rattle.plural_expr.specs.declared.fault.PluralFault.{PluralFault}
use Rattle.units.specs.Limits.{language_limit}
use Rattle.units.specs.Project.{Project, Place, role_of, view_of, with_unit}
use Rattle.units.specs.Rules.{by_result, rule_in, rule_at}
use Rattle.units.specs.declared.unit.UnitAct.{UnitAct}
use Rattle.units.specs.declared.unit.UnitView.{UnitView}
use Rattle.units.specs.declared.unit.Refusal.TheVariants.{NoLanguage, NoUnit, LanguageExists, PoText, PluralFormsField, PastLimit}
use Rattle.review.specs.declared.decision.Decision.{Decision}
use Rattle.review.specs.declared.decision.Decision.TheVariants.{Done, Refused}
use Rattle.review.specs.UnitStep.{unit_step}
use Rattle.template_update.specs.declared.plans.Plan.{Plan}
use Rattle.template_update.specs.Templates.{template_of}
use Rattle.template_update.specs.Loads.{load_of}
use Rattle.replies.specs.Bodies.{Stepped, reply, refused_with, refuse, po_fault_fields, plural_fault_fields, count_fields, template_fields, value_fields}
use Rattle.office_specification.specs.ProjectActs.{LanguagePlan, plans, with_template, with_language, template_step, language_step, unit_act_step, decided}
use Rattle.office_specification.proofs.acts.Ends.{Ends, refuses, does}

-- the same team and policy
abbrev pub Shares : Project → Project → Type 0
Shares project new = (new.team ≡ project.team) × (new.policy ≡ project.policy)

-- ---- an act on a unit

pub unit_act_ends : (project : Project) (caller number : Text) (place : Place) (act : UnitAct) → Ends (Shares project) project (unit_act_step project caller number place act)
unit_act_ends project caller number place act = by (maps.contains_key project.headers place.0) (view_of project place)
  where
    by_decision : (d : Decision) → Ends (Shares project) project (decided project place d)
    by_decision (Done view values) = does (with_unit project place view.unit) (value_fields values) (refl, refl)
    by_decision (Refused refusal) = refuses refusal []

    by : (there : Bool) (view : Option UnitView) →
        Ends (Shares project) project (cond (not there) (refuse project NoLanguage) (option_map_or
        (λ v. decided project place (unit_step project.policy (rule_at project place.0) (role_of project caller) caller number v act)) view (refuse project NoUnit)))
    by false view = refuses NoLanguage []
    by true None = refuses NoUnit []
    by true (Some v) = by_decision (unit_step project.policy (rule_at project place.0) (role_of project caller) caller number v act)

-- ---- a template, and a language

abbrev text_fault : Project → Fault → Stepped Project
text_fault project fault = (project, refused_with PoText (po_fault_fields fault))

abbrev updated : Project → List Entry → List LanguagePlan → Stepped Project
updated project next all = (with_template project next all, reply 200 (template_fields (map (λ p. (p.0, p.1.counts)) all)))

pub template_ends : (project : Project) (po : Text) → Ends (Shares project) project (template_step project po)
template_ends project po = by (reading_of limits po)
  where
    by_plans : (next : List Entry) (o : Option (List LanguagePlan)) → Ends (Shares project) project (option_map_or (updated project next) o (refuse project PastLimit))
    by_plans next None = refuses PastLimit []
    by_plans next (Some all) = does (with_template project next all) (template_fields (map (λ p. (p.0, p.1.counts)) all)) (refl, refl)

    by : (read : Result (List Entry) Fault) → Ends (Shares project) project (by_result (text_fault project) (λ entries. option_map_or (updated project (template_of entries)) (plans project (template_of entries)) (refuse project PastLimit)) read)
    by (Err fault) = refuses PoText (po_fault_fields fault)
    by (Ok entries) = by_plans (template_of entries) (plans project (template_of entries))

abbrev loaded : Project → Text → Entry → Plan → Stepped Project
loaded project lang header plan = (with_language project lang header plan, reply 200 (count_fields plan.counts))

abbrev with_rule : Project → Text → List Entry → Entry → Rule → Stepped Project
with_rule project lang entries header rule =
    cond (nat_le language_limit (maps.len project.headers)) (refuse project PastLimit)
    (option_map_or (loaded project lang header) (load_of project.template entries rule project.policy) (refuse project PastLimit))

abbrev no_rule : Project → Option PluralFault → Stepped Project
no_rule project fault = (project, refused_with PluralFormsField (plural_fault_fields fault))

abbrev of_entries : Project → Text → List Entry → Stepped Project
of_entries project lang entries =
    by_result (no_rule project) (λ rule. option_map_or (λ h. with_rule project lang entries h rule) (find is_header entries) (no_rule project None)) (rule_in (find is_header entries))

pub language_ends : (project : Project) (lang po : Text) → Ends (Shares project) project (language_step project lang po)
language_ends project lang po = by (maps.contains_key project.headers lang) (reading_of limits po)
  where
    by_plan : (header : Entry) (full : Bool) (o : Option Plan) → Ends (Shares project) project (cond full (refuse project PastLimit) (option_map_or (loaded project lang header) o (refuse project PastLimit)))
    by_plan header true o = refuses PastLimit []
    by_plan header false None = refuses PastLimit []
    by_plan header false (Some plan) = does (with_language project lang header plan) (count_fields plan.counts) (refl, refl)

    by_rule : (entries : List Entry) (header : Option Entry) (rule : Result Rule (Option PluralFault)) →
        Ends (Shares project) project (by_result (no_rule project) (λ r. option_map_or (λ h. with_rule project lang entries h r) header (no_rule project None)) rule)
    by_rule entries header (Err fault) = refuses PluralFormsField (plural_fault_fields fault)
    by_rule entries None (Ok rule) = refuses PluralFormsField (plural_fault_fields None)
    by_rule entries (Some header) (Ok rule) = by_plan header (nat_le language_limit (maps.len project.headers)) (load_of project.template entries rule project.policy)

    by : (there : Bool) (read : Result (List Entry) Fault) → Ends (Shares project) project (cond there (refuse project LanguageExists) (by_result (text_fault project) (of_entries project lang) read))
    by true read = refuses LanguageExists []
    by false (Err fault) = refuses PoText (po_fault_fields fault)
    by false (Ok entries) = by_rule entries (find is_header entries) (rule_in (find is_header entries))
