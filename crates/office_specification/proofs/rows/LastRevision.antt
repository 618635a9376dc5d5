-- What a policy and a template do where the demo office's one unit is approved and has the last revision, by the definitions alone:
-- no test reaches such an office by requests.
use Rattle.std.specs.Prelude.{◌≡◌, ℕ, List, [], ◌∷◌, Bool, true, false, ◌&&◌, if◌then◌else◌, Option, Some, None, option_map, Ok, Err, codes, refl}
use Rattle.std.specs.Option.{option_map_or}
use Rattle.std.specs.Str.{is_utf8, chars}
use Rattle.std.proofs.Common.{◌∙◌, ap}
use Rattle.std.specs.FinMap as maps
use Rattle.plural_expr.specs.Values.{Rule}
use Rattle.po_lex.specs.declared.fault.FaultKind.TheVariants as kinds
use Rattle.po_lex.specs.Escapes.{raw_at, letter_at, unescaped, unescaped_behind}
use Rattle.po_lex.specs.Lines.{lines_of, line_of, part_at}
use Rattle.po_text.specs.declared.entry.Entry.{Entry}
use Rattle.po_read.specs.Faults.{fault_of, fault_from, fault_at, fault_at_end}
use Rattle.po_text.specs.Header.{field_value, has_charset}
use Rattle.po_read.specs.Plain.{reading_of, entries_of, entry_of}
use Rattle.po_read.specs.Spells.{limits}
use Rattle.po_text.specs.Texts.{Text, text_cmp}
use Rattle.units.specs.Limits.{revision_limit}
use Rattle.units.specs.Project.{Project, Place, place_cmp, with_unit}
use Rattle.units.specs.Office.{Office}
use Rattle.units.specs.Openings.{demo_unit, demo_header, plain_entry, closed_policy}
use Rattle.units.specs.Rules.{by_result, rule_at}
use Rattle.units.specs.declared.unit.Policy.{Policy}
use Rattle.units.specs.declared.unit.Unit.{Unit}
use Rattle.units.specs.declared.unit.UnitState.TheVariants.{Translated, Approved}
use Rattle.units.specs.declared.unit.Refusal.TheVariants.{BelowRole, PoText, PastLimit}
use Rattle.units.specs.Orders.{text_total, place_total}
use Rattle.template_update.specs.declared.plans.Counts.TheVariants as counted
use Rattle.template_update.specs.declared.plans.Plan.{Plan}
use Rattle.template_update.specs.Units.{has_revision}
use Rattle.template_update.specs.Updates.{plan_of, update_of, updated_unit, stays_by, counts_of}
use Rattle.template_update.proofs.Moving.{updated_by-moved}
use Rattle.replies.specs.Bodies.{Stepped, refuse, refused_with, reply, po_fault_fields, template_fields, policy_fields}
use Rattle.office_specification.specs.MainAlone.{main_alone}
use Rattle.office_specification.specs.ProjectActs.{LanguagePlan, plans, all_some, updated, template_step}
use Rattle.office_specification.specs.OfficeActs.{policy_step, managed}
use Rattle.office_specification.proofs.domains.MainAlone.{entries-main}
use Rattle.office_specification.proofs.rules.DomainNumbers.{no_entries}
use Rattle.office_specification.proofs.rows.DemoRequests.{demo_project, lines, role_ann, de, hello, ann}

abbrev place : Place
place = (de, hello)

-- `Hello` as `Hallo`, approved, at a revision
abbrev approved_unit : ℕ → Unit
approved_unit revision = record demo_unit { forms = codes "Hallo" ∷ []; state = Approved; revision = revision }

-- the demo office's project with reviews, and with that unit for its one
abbrev approved_at : ℕ → Project
approved_at revision = record (with_unit demo_project place (approved_unit revision)) { policy = record closed_policy { reviews = true } }

-- with the last revision
abbrev pub at_last : Project
at_last = approved_at revision_limit

-- with the one before it
abbrev pub before_last : Project
before_last = approved_at 8999999999999999

-- ---- what stands there

-- the one unit
units_there : (revision : ℕ) → maps.entries (approved_at revision).units ≡ (place, approved_unit revision) ∷ []
units_there revision =
    maps.entries-insert place_total demo_project.units place (approved_unit revision)
    ∙ (ap (maps.put place_cmp place (approved_unit revision)) (maps.entries-insert place_total maps.empty place demo_unit)
    ∙ ap (λ es. maps.put place_cmp place (approved_unit revision) (maps.put place_cmp place demo_unit es)) (no_entries place_cmp))

-- the one language
headers_there : maps.entries demo_project.headers ≡ (de, plain_entry [] demo_header) ∷ []
headers_there = maps.entries-insert text_total maps.empty de (plain_entry [] demo_header) ∙ ap (maps.put text_cmp de (plain_entry [] demo_header)) (no_entries text_cmp)

-- ---- the policy

abbrev pub office_at_last : Office
office_at_last = main_alone at_last

-- without reviews the unit would become translated, past the last revision
pub policy_at_last : policy_step office_at_last closed_policy ≡ refuse office_at_last PastLimit
policy_at_last = rw (entries-main at_last, units_there revision_limit) refl

-- a translator is refused for the role first
pub below_comes_first : managed office_at_last ann (policy_step office_at_last closed_policy) ≡ refuse office_at_last BelowRole
below_comes_first = rw role_ann refl

-- the unit translated, with the last revision, in an office without reviews
abbrev pub after_policy : Project
after_policy = record before_last {
  policy = closed_policy;
  units = maps.insert maps.empty place (record (approved_unit revision_limit) { state = Translated });
}

-- one revision earlier the same policy is taken, and changes one unit
pub policy_before_last : policy_step (main_alone before_last) closed_policy ≡ (main_alone after_policy, reply 200 (policy_fields 1))
policy_before_last = rw (entries-main before_last, units_there 8999999999999999) refl

-- with reviews
abbrev pub reviewed : Policy
reviewed = record closed_policy { reviews = true }

-- with the last revision, and its unit put in anew
abbrev pub at_last_anew : Project
at_last_anew = record at_last { units = maps.insert maps.empty place (approved_unit revision_limit) }

-- a policy with reviews changes no unit, and is taken
pub reviews_at_last : policy_step office_at_last reviewed ≡ (main_alone at_last_anew, reply 200 (policy_fields 0))
reviews_at_last = rw (entries-main at_last, units_there revision_limit) refl

-- ---- texts of templates

abbrev pub two_messages : Text
two_messages = lines (codes "msgid \"Hello\"" ∷ codes "msgstr \"\"" ∷ [] ∷ codes "msgid \"Bye\"" ∷ codes "msgstr \"\"" ∷ [])

-- its msgid_plural is new
abbrev pub hellos : Text
hellos = lines (codes "msgid \"Hello\"" ∷ codes "msgid_plural \"Hellos\"" ∷ codes "msgstr[0] \"\"" ∷ [])

-- a msgid with nothing behind it
abbrev pub id_alone : Text
id_alone = lines (codes "msgid \"Hello\"" ∷ [])

abbrev pub message : Entry
message = plain_entry hello.id []

abbrev bye : Entry
bye = plain_entry (codes "Bye") []

abbrev in_plural : Entry
in_plural = record message { plural = Some (codes "Hellos") }

-- an empty text has no entries
empty_reading : reading_of limits [] ≡ Ok []
unfolding reading_of entries_of fault_of fault_from fault_at_end is_utf8 chars lines_of
empty_reading = refl

two_read : reading_of limits two_messages ≡ Ok (message ∷ bye ∷ [])
unfolding reading_of entries_of entry_of fault_of fault_from fault_at fault_at_end is_utf8 chars lines_of line_of part_at raw_at letter_at unescaped unescaped_behind field_value has_charset lib.Utf8.encode
two_read = refl

hellos_read : reading_of limits hellos ≡ Ok (in_plural ∷ [])
unfolding reading_of entries_of entry_of fault_of fault_from fault_at fault_at_end is_utf8 chars lines_of line_of part_at raw_at letter_at unescaped unescaped_behind field_value has_charset lib.Utf8.encode
hellos_read = refl

not_read : reading_of limits id_alone ≡ Err (2, kinds.Order)
unfolding reading_of entries_of entry_of fault_of fault_from fault_at fault_at_end is_utf8 chars lines_of line_of part_at raw_at letter_at unescaped unescaped_behind field_value has_charset lib.Utf8.encode
not_read = refl

-- ---- the template

-- what is answered to a template, by its plans
abbrev by_plans : Project → List Entry → Option (List LanguagePlan) → Stepped Project
by_plans project template all = option_map_or (updated project template) all (refuse project PastLimit)

-- without its entry the unit would become obsolete, past the last revision
pub no_plans : plans at_last [] ≡ None
unfolding plan_of
no_plans = rw (headers_there, units_there revision_limit) refl

-- so it is refused as a template
pub template_at_last : template_step at_last [] ≡ refuse at_last PastLimit
template_at_last = ap (by_result _ _) empty_reading ∙ ap (by_plans at_last []) no_plans

-- with a msgid_plural it would be changed, past the last revision too
abbrev changed_unit : Rule → Unit
changed_unit rule = updated_unit at_last.template (in_plural ∷ []) rule (approved_unit revision_limit)

past : (rule : Rule) → has_revision (changed_unit rule) ≡ false
past rule =
    ap has_revision
    (updated_by-moved rule (update_of at_last.template (in_plural ∷ []) (approved_unit revision_limit)) (Some (codes "Hellos")) (approved_unit revision_limit))

abbrev changed_plan : Rule → Plan
changed_plan rule = record {
  units = changed_unit rule ∷ [];
  stays = stays_by (update_of at_last.template (in_plural ∷ []) (approved_unit revision_limit)) ∷ [];
  counts = counts_of 0 (update_of at_last.template (in_plural ∷ []) (approved_unit revision_limit) ∷ []);
}

over : (rule : Rule) → plan_of at_last.template (approved_unit revision_limit ∷ []) (in_plural ∷ []) rule ≡ None
unfolding plan_of
over rule = ap (λ (b : Bool). if b && true then Some (changed_plan rule) else None) (past rule)

pub no_plans_in_plural : plans at_last (in_plural ∷ []) ≡ None
no_plans_in_plural =
    rw (headers_there, units_there revision_limit) (ap (λ (p : Option Plan). all_some (option_map (λ plan. (de, plan)) p ∷ [])) (over (rule_at at_last de)))

pub changed_at_last : template_step at_last hellos ≡ refuse at_last PastLimit
changed_at_last = ap (by_result _ _) hellos_read ∙ ap (by_plans at_last (in_plural ∷ [])) no_plans_in_plural

-- a fault of the text comes first
pub fault_comes_first : template_step at_last id_alone ≡ (at_last, refused_with PoText (po_fault_fields (2, kinds.Order)))
fault_comes_first = ap (by_result _ _) not_read

-- a template that only adds a message changes no unit, and is taken
abbrev pub one_added : List LanguagePlan
one_added = (de, record { units = approved_unit revision_limit ∷ record demo_unit { key = record { ctx = None; id = codes "Bye" } } ∷ []; stays = true ∷ []; counts = counted.Updated 1 0 1 0 0 }) ∷ []

added_plans : plans at_last (message ∷ bye ∷ []) ≡ Some one_added
unfolding plan_of
added_plans = rw (headers_there, units_there revision_limit) refl

pub added_at_last : template_step at_last two_messages ≡ updated at_last (message ∷ bye ∷ []) one_added
added_at_last = ap (by_result _ _) two_read ∙ ap (by_plans at_last (message ∷ bye ∷ [])) added_plans

-- ---- one revision earlier the first is taken, and then the other refused

units_anew : (unit : Unit) → maps.entries (maps.insert (maps.empty {X = Unit} {R = place_cmp}) place unit) ≡ (place, unit) ∷ []
units_anew unit = maps.entries-insert place_total maps.empty place unit ∙ ap (maps.put place_cmp place unit) (no_entries place_cmp)

-- a policy, then a template
no_plans_after : plans after_policy [] ≡ None
unfolding plan_of
no_plans_after = rw (headers_there, units_anew (record (approved_unit revision_limit) { state = Translated })) refl

pub template_after_policy : template_step after_policy [] ≡ refuse after_policy PastLimit
template_after_policy = ap (by_result _ _) empty_reading ∙ ap (by_plans after_policy []) no_plans_after

-- a template, then a policy: it counts the obsolete unit too
abbrev gone : Unit
gone = record (approved_unit revision_limit) { obsolete = true }

abbrev pub after_template : Project
after_template = record before_last { template = []; units = maps.insert maps.empty place gone }

one_gone : plans before_last [] ≡ Some ((de, record { units = gone ∷ []; stays = false ∷ []; counts = counted.Updated 0 0 0 1 0 }) ∷ [])
unfolding plan_of
one_gone = rw (headers_there, units_there 8999999999999999) refl

pub template_before_last : template_step before_last [] ≡ (after_template, reply 200 (template_fields ((de, counted.Updated 0 0 0 1 0) ∷ [])))
template_before_last = ap (by_result _ _) empty_reading ∙ ap (by_plans before_last []) one_gone

pub policy_after_template : policy_step (main_alone after_template) closed_policy ≡ refuse (main_alone after_template) PastLimit
policy_after_template = rw (entries-main after_template, units_anew gone) refl
