-- Worked rows of an office with several domains, by the definitions alone: from the demo office, each from what those before it leave.
use Rattle.std.specs.Prelude.{◌≡◌, ℕ, List, [], ◌∷◌, ◌++◌, true, false, Option, Some, None, unwrap_or, Result, Ok, Err, is_ok, codes, map, filter, not, ◌&&◌, option_map, refl}
use Rattle.std.specs.Option.{option_map_or}
use Rattle.std.specs.Str.{is_utf8, chars}
use Rattle.std.specs.Fmt.{digits}
use Rattle.std.proofs.Common.{◌∙◌, ap}
use Rattle.std.specs.FinMap as maps
use Rattle.plural_expr.specs.declared.fault.PluralFault.{PluralFault}
use Rattle.plural_expr.specs.Tokens.{tokens_behind, token_at}
use Rattle.plural_expr.specs.Values.{Rule, value_of}
use Rattle.plural_expr.specs.Plain.{rule_of, rule_at, operand_at, behind}
use Rattle.plural_expr.specs.Faults.{values_fault, reading_of as rule_reading}
use Rattle.po_lex.specs.Escapes.{raw_at, letter_at, unescaped, unescaped_behind}
use Rattle.po_lex.specs.Lines.{lines_of, line_of, part_at}
use Rattle.po_text.specs.declared.entry.Entry.{Entry}
use Rattle.po_read.specs.Faults.{fault_of, fault_from, fault_at, fault_at_end}
use Rattle.po_text.specs.Header.{field_value, has_charset}
use Rattle.po_read.specs.Plain.{reading_of, entries_of, entry_of}
use Rattle.po_read.specs.Spells.{limits}
use Rattle.po_text.specs.Texts.{Text, text_cmp, text_eq}
use Rattle.po_write.specs.Text.{text_of, entry_text, string_lines}
use Rattle.units.specs.Project.{Project, Place, place_cmp, units_of}
use Rattle.units.specs.Office.{Office, Domain, main, empty_domain, as_project, project_in, domain_of}
use Rattle.units.specs.Changes.{with_domain}
use Rattle.units.specs.Openings.{demo, demo_domain, demo_unit, demo_header, plain_entry}
use Rattle.units.specs.Orders.{text_total, place_total}
use Rattle.units.specs.Rules.{by_result, rule_in, rule_of_field}
use Rattle.units.specs.Units.{all_empty}
use Rattle.units.specs.declared.unit.Unit.{Unit}
use Rattle.units.specs.declared.unit.UnitAction.TheVariants.{Translate}
use Rattle.units.specs.declared.unit.UnitState.TheVariants.{Translated}
use Rattle.units.specs.declared.unit.Refusal.TheVariants.{PastLimit}
use Rattle.request_book.specs.Replies.{Reply}
use Rattle.request_book.specs.declared.act.Act.{Act}
use Rattle.request_book.specs.declared.act.Act.TheVariants.{OnUnit, SetTemplate, AddLanguage, AddDomain}
use Rattle.request_book.specs.declared.act.Request.{Request}
use Rattle.request_book.specs.Acts.{content_text}
use Rattle.serde_json.proofs.OnLiterals.{serde_json_on_literals}
use Rattle.checks.specs.Result.{result_state}
use Rattle.review.specs.UnitStep.{unit_step, refusals, unit_after}
use Rattle.template_update.specs.declared.plans.Counts.TheVariants as counted
use Rattle.template_update.specs.Loads.{load_of}
use Rattle.template_update.specs.Updates.{plan_of}
use Rattle.replies.specs.Bodies.{Stepped, refuse, reply, template_fields, count_fields, number_used}
use Rattle.office_specification.specs.Step.{step, act_step}
use Rattle.office_specification.specs.Deliveries.{reply_at}
use Rattle.office_specification.specs.ExportText.{export_text}
use Rattle.office_specification.specs.ExportedEntries.{catalogue_of, translated, obsolete_entry}
use Rattle.office_specification.specs.Laws.{GoInEitherOrder}
use Rattle.office_specification.specs.ProjectActs.{LanguagePlan, plans, updated, with_template, template_step, language_step, with_rule, of_entries}
use Rattle.office_specification.proofs.commuting.Between.{either}
use Rattle.office_specification.proofs.rules.DomainNumbers.{no_entries}
use Rattle.office_specification.proofs.rows.DemoRequests.{begun, told, lines, domain_main, with_main, main_of, header_de, unit_hello, role_ann, role_root, numbered, de, hello, ann, root, first_line}
use Rattle.office_specification.proofs.rows.Rows.{first_reply}
use Rattle.office_specification.proofs.rows.LastRevision.{message}
use Rattle.office_specification.proofs.rows.ExportRows.{after_one, entries_after_one, project_after}

abbrev docs : Text
docs = codes "docs"

abbrev fr : Text
fr = codes "fr"

abbrev asked : ℕ → Text → Act → Request
asked n caller act = record { number = numbered n; caller = caller; act = act }

-- an office with this for its `docs`
abbrev docs_as : Office → Domain → Office
docs_as office domain = record office { domains = maps.insert office.domains docs domain }

docs_of : (office : Office) (domain : Domain) → maps.get (docs_as office domain).domains docs ≡ Some domain
docs_of office domain = maps.get-insert text_total office.domains docs domain docs

main_beside_docs : (office : Office) (domain : Domain) → maps.get (docs_as office domain).domains main ≡ maps.get office.domains main
main_beside_docs office domain = maps.get-insert text_total office.domains docs domain main

docs_beside_main : (office : Office) (domain : Domain) → maps.get (with_main office domain).domains docs ≡ maps.get office.domains docs
docs_beside_main office domain = maps.get-insert text_total office.domains main domain docs

-- what a step in `docs` leaves of the office
abbrev in_docs : Office → Stepped Project → Stepped Office
in_docs office after = (docs_as office (domain_of after.0), after.1)

abbrev in_main : Office → Stepped Project → Stepped Office
in_main office after = (with_main office (domain_of after.0), after.1)

-- ---- a new domain

abbrev with_docs : Office
with_docs = with_domain demo docs

no_docs : maps.get demo.domains docs ≡ None
no_docs = maps.get-insert text_total maps.empty main demo_domain docs ∙ maps.get-empty text_cmp docs

docs_there : maps.get with_docs.domains docs ≡ Some empty_domain
docs_there = docs_of demo empty_domain

one_domain : maps.len demo.domains ≡ 1
one_domain = rw (maps.len-insert text_total maps.empty main demo_domain, maps.get-empty text_cmp main, maps.len-empty text_cmp Domain) refl

pub comes : step demo (asked 48 root (AddDomain docs)) ≡ (with_docs, told 200 (codes "{\"name\":\"docs\"}"))
unfolding act_step serde_json_on_literals digits
comes = rw (role_root, no_docs, one_domain) refl

pub exists : step with_docs (asked 49 root (AddDomain docs)) ≡ (with_docs, told 409 (codes "{\"refusal\":\"domain-exists\",\"rule\":19}"))
unfolding act_step serde_json_on_literals digits
exists = rw (role_root, docs_there) refl

-- the role comes first
pub not_a_manager : step with_docs (asked 49 ann (AddDomain docs)) ≡ (with_docs, told 403 (codes "{\"refusal\":\"role\",\"rule\":3}"))
unfolding act_step serde_json_on_literals digits
not_a_manager = rw role_ann refl

-- a ninth
pub ninth : (office : Office) → office.team ≡ demo.team → maps.len office.domains ≡ 8 → maps.get office.domains docs ≡ None
    → step office (asked 48 root (AddDomain docs)) ≡ (office, told 422 (codes "{\"refusal\":\"limit\",\"rule\":17}"))
unfolding act_step serde_json_on_literals digits
ninth office team full missing = rw (team, role_root, missing, full) refl

-- where eight are, one of these is refused as there
pub exists_of_eight : (office : Office) (domain : Domain) → office.team ≡ demo.team → maps.len office.domains ≡ 8 → maps.get office.domains docs ≡ Some domain
    → step office (asked 49 root (AddDomain docs)) ≡ (office, told 409 (codes "{\"refusal\":\"domain-exists\",\"rule\":19}"))
unfolding act_step serde_json_on_literals digits
exists_of_eight office domain team full there = rw (team, role_root, there) refl

-- ---- a template in a domain that isn't there

no_web : maps.get with_docs.domains (codes "web") ≡ None
no_web =
    maps.get-insert text_total demo.domains docs empty_domain (codes "web")
    ∙ (maps.get-insert text_total maps.empty main demo_domain (codes "web") ∙ maps.get-empty text_cmp (codes "web"))

pub no_domain : step with_docs (asked 50 root (SetTemplate (codes "web") [])) ≡ (with_docs, told 404 (codes "{\"refusal\":\"no-domain\",\"rule\":20}"))
unfolding act_step serde_json_on_literals digits
no_domain = rw (role_root, no_web) refl

-- the role comes first here too
pub role_before_domain : step with_docs (asked 50 ann (SetTemplate (codes "web") [])) ≡ (with_docs, told 403 (codes "{\"refusal\":\"role\",\"rule\":3}"))
unfolding act_step serde_json_on_literals digits
role_before_domain = rw role_ann refl

-- ---- a template in the new one

abbrev hello_text : Text
hello_text = lines (codes "msgid \"Hello\"" ∷ codes "msgstr \"\"" ∷ [])

hello_read : reading_of limits hello_text ≡ Ok (message ∷ [])
unfolding reading_of entries_of entry_of fault_of fault_from fault_at fault_at_end is_utf8 chars lines_of line_of part_at raw_at letter_at unescaped unescaped_behind field_value has_charset lib.Utf8.encode
hello_read = refl

abbrev with_hello : Domain
with_hello = record empty_domain { template = message ∷ [] }

-- what is answered to a template, by its plans
abbrev by_plans : Project → List Entry → Option (List LanguagePlan) → Stepped Project
by_plans project template all = option_map_or (updated project template) all (refuse project PastLimit)

abbrev docs_begun : Project
docs_begun = as_project demo empty_domain

no_plans : plans docs_begun (message ∷ []) ≡ Some []
no_plans = rw (no_entries {X = Entry} text_cmp) refl

template_there : template_step docs_begun hello_text ≡ (as_project demo with_hello, reply 200 (template_fields []))
template_there = ap (by_result _ _) hello_read ∙ ap (by_plans docs_begun (message ∷ [])) no_plans

abbrev templated : Office
templated = docs_as with_docs with_hello

pub template_in_docs : step with_docs (asked 51 root (SetTemplate docs hello_text)) ≡ (templated, told 200 (codes "{\"languages\":{}}"))
unfolding act_step serde_json_on_literals digits
template_in_docs = rw (role_root, docs_there) (ap (in_docs with_docs) template_there)

-- ---- a language in it

abbrev fr_text : Text
fr_text = lines (codes "msgid \"\"" ∷ codes "msgstr \"Plural-Forms: nplurals=2; plural=n>1;\\n\"" ∷ [])

abbrev fr_string : Text
fr_string = codes "Plural-Forms: nplurals=2; plural=n>1;" ++ 10 ∷ []

abbrev fr_header : Entry
fr_header = plain_entry [] fr_string

abbrev fr_plural : Text
fr_plural = codes "nplurals=2; plural=n>1;"

fr_read : reading_of limits fr_text ≡ Ok (fr_header ∷ [])
unfolding reading_of entries_of entry_of fault_of fault_from fault_at fault_at_end is_utf8 chars lines_of line_of part_at raw_at letter_at unescaped unescaped_behind field_value has_charset lib.Utf8.encode
fr_read = refl

fr_field : field_value (codes "Plural-Forms") fr_string ≡ Some fr_plural
unfolding field_value lines_of
fr_field = refl

fr_sound : is_ok (rule_reading fr_plural) ≡ true
unfolding rule_reading values_fault rule_of rule_at operand_at behind tokens_behind token_at value_of
fr_sound = refl

what_is_ok : (read : Result Rule PluralFault) → is_ok read ≡ true → (rule : Rule) × (read ≡ Ok rule)
what_is_ok (Ok rule) ok = (rule, refl)
what_is_ok (Err fault) ok = let wrong : false ≡ true = ok in cc

fr_rule : (rule : Rule) × (rule_reading fr_plural ≡ Ok rule)
fr_rule = what_is_ok (rule_reading fr_plural) fr_sound

fr_ruled : rule_in (Some fr_header) ≡ Ok fr_rule.0
fr_ruled = ap rule_of_field fr_field ∙ ap (by_result (λ fault. Err (Some fault)) Ok) fr_rule.1

abbrev hello_place : Place
hello_place = (fr, hello)

-- its one unit is as the demo office's
abbrev french : Domain
french = record with_hello { headers = maps.insert maps.empty fr fr_header; units = maps.insert maps.empty hello_place demo_unit }

no_language_yet : maps.get (maps.empty {X = Entry} {R = text_cmp}) fr ≡ None
no_language_yet = maps.get-empty text_cmp fr

entries_loaded : with_rule (as_project demo with_hello) fr (fr_header ∷ []) fr_header fr_rule.0 ≡ (as_project demo french, reply 200 (count_fields (counted.Loaded 0 1 0)))
unfolding load_of
entries_loaded = rw (maps.len-empty text_cmp Entry) refl

entries_taken : of_entries (as_project demo with_hello) fr (fr_header ∷ []) ≡ (as_project demo french, reply 200 (count_fields (counted.Loaded 0 1 0)))
entries_taken = ap (by_result _ _) fr_ruled ∙ entries_loaded

language_there : language_step (as_project demo with_hello) fr fr_text ≡ (as_project demo french, reply 200 (count_fields (counted.Loaded 0 1 0)))
language_there = rw no_language_yet (ap (by_result _ _) fr_read ∙ entries_taken)

abbrev in_french : Office
in_french = docs_as templated french

docs_templated : maps.get templated.domains docs ≡ Some with_hello
docs_templated = docs_of with_docs with_hello

pub language_in_docs : step templated (asked 52 root (AddLanguage docs fr fr_text)) ≡ (in_french, told 200 (codes "{\"loaded\":0,\"missing\":1,\"obsolete\":0}"))
unfolding act_step serde_json_on_literals digits
language_in_docs = rw (role_root, docs_templated) (ap (in_docs templated) language_there)

-- ---- an act in `main`

-- the translation is written, and `docs` stays
abbrev hallo : Office
hallo = with_main in_french (domain_of project_after)

main_there : maps.get in_french.domains main ≡ Some demo_domain
main_there = main_beside_docs templated french ∙ (main_beside_docs with_docs with_hello ∙ (main_beside_docs demo empty_domain ∙ domain_main))

pub line_in_main : step in_french first_line ≡ (hallo, first_reply)
unfolding act_step unit_step refusals unit_after result_state serde_json_on_literals digits
line_in_main = rw (main_there, header_de, unit_hello, role_ann) refl

-- the content's text leaves `main` out, so the line with `main` written out is a repeat
pub old_text : content_text first_line ≡ codes "{\"act\":\"translate\",\"caller\":\"ann\",\"forms\":[\"Hallo\"],\"id\":\"Hello\",\"lang\":\"de\",\"seen\":1}"
unfolding content_text serde_json_on_literals digits
old_text = refl

-- ---- the same in `docs`

abbrev in_docs_under : ℕ → Request
in_docs_under n = asked n ann (OnUnit docs de hello (record { seen = 1; action = Translate (codes "Hallo" ∷ []) }))

pub text_in_docs : content_text (in_docs_under 1) ≡ codes "{\"act\":\"translate\",\"caller\":\"ann\",\"domain\":\"docs\",\"forms\":[\"Hallo\"],\"id\":\"Hello\",\"lang\":\"de\",\"seen\":1}"
unfolding content_text serde_json_on_literals digits
text_in_docs = refl

-- under the number of the line in `main`
pub used_in_docs : reply_at begun (first_line ∷ []) (in_docs_under 1) ≡ number_used
unfolding reply_at content_text serde_json_on_literals digits
used_in_docs = rw (maps.get-empty text_cmp) refl

docs_french : maps.get hallo.domains docs ≡ Some french
docs_french = docs_beside_main in_french (domain_of project_after) ∙ docs_of templated french

no_german : maps.get french.headers de ≡ None
no_german = maps.get-insert text_total maps.empty fr fr_header de ∙ maps.get-empty text_cmp de

abbrev no_language_reply : Reply
no_language_reply = told 404 (codes "{\"refusal\":\"no-language\",\"rule\":1}")

-- under a number of its own: the language isn't in that domain
pub no_language : (step hallo (in_docs_under 55)).1 ≡ no_language_reply
unfolding act_step unit_step refusals unit_after result_state serde_json_on_literals digits
no_language = rw (docs_french, no_german) refl

-- and so where the domain isn't there
pub nowhere : step demo (in_docs_under 55) ≡ (demo, no_language_reply)
unfolding act_step unit_step refusals unit_after result_state serde_json_on_literals digits
nowhere = rw (no_docs, maps.get-empty text_cmp) refl

-- ---- an empty template for `main`, and a translation in `docs`

abbrev emptied : Request
emptied = asked 53 root (SetTemplate main [])

abbrev bonjour : Request
bonjour = asked 54 root (OnUnit docs fr hello (record { seen = 1; action = Translate (codes "Bonjour" ∷ []) }))

empty_reading : reading_of limits [] ≡ Ok []
unfolding reading_of entries_of fault_of fault_from fault_at_end is_utf8 chars lines_of
empty_reading = refl

headers_there : maps.entries demo_domain.headers ≡ (de, plain_entry [] demo_header) ∷ []
headers_there = maps.entries-insert text_total maps.empty de (plain_entry [] demo_header) ∙ ap (maps.put text_cmp de (plain_entry [] demo_header)) (no_entries text_cmp)

abbrev gone : Unit
gone = record after_one { obsolete = true; revision = 3 }

abbrev plans_without : List LanguagePlan
plans_without = (de, record { units = gone ∷ []; stays = false ∷ []; counts = counted.Updated 0 0 0 1 0 }) ∷ []

one_gone : plans project_after [] ≡ Some plans_without
unfolding plan_of
one_gone = rw (headers_there, entries_after_one) refl

emptied_there : template_step project_after [] ≡ updated project_after [] plans_without
emptied_there = ap (by_result _ _) empty_reading ∙ ap (by_plans project_after []) one_gone

abbrev emptied_reply : Reply
emptied_reply = told 200 (codes "{\"languages\":{\"de\":{\"added\":0,\"changed\":0,\"kept\":0,\"obsolete\":1,\"revived\":0}}}")

main_hallo : maps.get hallo.domains main ≡ Some (domain_of project_after)
main_hallo = main_of in_french (domain_of project_after)

emptied_in_main : step hallo emptied ≡ (with_main hallo (domain_of (with_template project_after [] plans_without)), emptied_reply)
unfolding act_step serde_json_on_literals digits
emptied_in_main = rw (role_root, main_hallo) (ap (in_main hallo) emptied_there)

fr_header_there : maps.get french.headers fr ≡ Some fr_header
fr_header_there = maps.get-insert text_total maps.empty fr fr_header fr

fr_unit_there : maps.get french.units hello_place ≡ Some demo_unit
fr_unit_there = maps.get-insert place_total maps.empty hello_place demo_unit hello_place

abbrev bonjour_unit : Unit
bonjour_unit = record demo_unit { forms = codes "Bonjour" ∷ []; state = Translated; revision = 2 }

abbrev translated_docs : Domain
translated_docs = record french { units = maps.insert french.units hello_place bonjour_unit }

abbrev bonjour_reply : Reply
bonjour_reply = told 200 (codes "{\"revision\":2,\"state\":\"translated\"}")

bonjour_in_docs : step hallo bonjour ≡ (docs_as hallo translated_docs, bonjour_reply)
unfolding act_step unit_step refusals unit_after result_state serde_json_on_literals digits
bonjour_in_docs = rw (docs_french, fr_header_there, fr_unit_there, role_root) refl

either_way : GoInEitherOrder hallo emptied bonjour
either_way = either hallo emptied bonjour refl

abbrev emptied_first : Stepped Office
emptied_first = step (step hallo emptied).0 bonjour

abbrev bonjour_first : Stepped Office
bonjour_first = step (step hallo bonjour).0 emptied

-- in either order each gets the same reply
pub emptied_replies : ((step hallo emptied).1 ≡ emptied_reply) × (bonjour_first.1 ≡ emptied_reply)
emptied_replies = let alone = ap (λ (s : Stepped Office). s.1) emptied_in_main in (alone, GoInEitherOrder.first either_way ∙ alone)

pub bonjour_replies : ((step hallo bonjour).1 ≡ bonjour_reply) × (emptied_first.1 ≡ bonjour_reply)
bonjour_replies = let alone = ap (λ (s : Stepped Office). s.1) bonjour_in_docs in (alone, GoInEitherOrder.second either_way ∙ alone)

-- and each language of each domain has the same text
pub same_exports : (domain lang : Text) → export_text (project_in emptied_first.0 domain) lang ≡ export_text (project_in bonjour_first.0 domain) lang
same_exports domain lang = ap (λ (o : Office). export_text (project_in o domain) lang) (GoInEitherOrder.left either_way)

-- ---- what these texts are

abbrev after_both : Office
after_both = with_main (docs_as hallo translated_docs) (domain_of (with_template project_after [] plans_without))

main_translated : maps.get (docs_as hallo translated_docs).domains main ≡ Some (domain_of project_after)
main_translated = main_beside_docs hallo translated_docs ∙ main_hallo

emptied_after_bonjour : step (docs_as hallo translated_docs) emptied ≡ (after_both, emptied_reply)
unfolding act_step serde_json_on_literals digits
emptied_after_bonjour = rw (role_root, main_translated) (ap (in_main (docs_as hallo translated_docs)) emptied_there)

left_by_both : bonjour_first.0 ≡ after_both
left_by_both = ap (λ (s : Stepped Office). (step s.0 emptied).0) bonjour_in_docs ∙ ap (λ (s : Stepped Office). s.0) emptied_after_bonjour

docs_after_both : project_in after_both docs ≡ as_project demo translated_docs
docs_after_both =
    ap (λ (o : Option Domain). as_project demo (unwrap_or o empty_domain))
    (docs_beside_main (docs_as hallo translated_docs) (domain_of (with_template project_after [] plans_without)) ∙ docs_of hallo translated_docs)

main_after_both : project_in after_both main ≡ with_template project_after [] plans_without
main_after_both =
    ap (λ (o : Option Domain). as_project demo (unwrap_or o empty_domain))
    (main_of (docs_as hallo translated_docs) (domain_of (with_template project_after [] plans_without)))

abbrev fr_export : Text
fr_export = lines (
    codes "msgid \"\""
    ∷ codes "msgstr \"Plural-Forms: nplurals=2; plural=n>1;\\n\""
    ∷ []
    ∷ codes "msgid \"Hello\""
    ∷ codes "msgstr \"Bonjour\""
    ∷ [])

abbrev de_export : Text
de_export = lines (
    codes "msgid \"\""
    ∷ codes "msgstr \"\""
    ∷ codes "\"Content-Type: text/plain; charset=UTF-8\\n\""
    ∷ codes "\"Plural-Forms: nplurals=2; plural=n != 1;\\n\""
    ∷ []
    ∷ codes "#~ msgid \"Hello\""
    ∷ codes "#~ msgstr \"Hallo\""
    ∷ [])

bonjour_there : maps.get translated_docs.units hello_place ≡ Some bonjour_unit
bonjour_there = maps.get-insert place_total french.units hello_place bonjour_unit hello_place

fr_units : maps.entries translated_docs.units ≡ (hello_place, bonjour_unit) ∷ []
fr_units =
    maps.entries-insert place_total french.units hello_place bonjour_unit
    ∙ (ap (maps.put place_cmp hello_place bonjour_unit) (maps.entries-insert place_total maps.empty hello_place demo_unit)
    ∙ ap (λ es. maps.put place_cmp hello_place bonjour_unit (maps.put place_cmp hello_place demo_unit es)) (no_entries place_cmp))

de_units : maps.entries (with_template project_after [] plans_without).units ≡ ((de, hello), gone) ∷ []
de_units = maps.entries-insert place_total maps.empty (de, hello) gone ∙ ap (maps.put place_cmp (de, hello) gone) (no_entries place_cmp)

abbrev shown_obsolete : List Unit → List Unit
shown_obsolete units = filter (λ unit. unit.obsolete && not (all_empty unit.forms)) units

fr_catalogue : catalogue_of (as_project demo translated_docs) fr fr_header ≡ fr_header ∷ plain_entry hello.id (codes "Bonjour") ∷ []
unfolding catalogue_of
fr_catalogue =
    ap (λ (unit : Option Unit). fr_header ∷ option_map_or (translated message) unit message ∷ map obsolete_entry (shown_obsolete (units_of (as_project demo translated_docs) fr))) bonjour_there
    ∙ ap (λ (es : List (Place × Unit)). fr_header ∷ plain_entry hello.id (codes "Bonjour") ∷ map obsolete_entry (shown_obsolete (map (λ e. e.1) (filter (λ e. text_eq fr e.0.0) es)))) fr_units

de_catalogue : catalogue_of (with_template project_after [] plans_without) de (plain_entry [] demo_header) ≡ plain_entry [] demo_header ∷ record (plain_entry hello.id (codes "Hallo")) { obsolete = true } ∷ []
unfolding catalogue_of
de_catalogue = ap (λ (es : List (Place × Unit)). plain_entry [] demo_header ∷ map obsolete_entry (shown_obsolete (map (λ e. e.1) (filter (λ e. text_eq de e.0.0) es)))) de_units

fr_text_is : text_of (fr_header ∷ plain_entry hello.id (codes "Bonjour") ∷ []) ≡ fr_export
unfolding text_of entry_text string_lines
fr_text_is = refl

de_text_is : text_of (plain_entry [] demo_header ∷ record (plain_entry hello.id (codes "Hallo")) { obsolete = true } ∷ []) ≡ de_export
unfolding text_of entry_text string_lines
de_text_is = refl

abbrev text_in : Project → Text → Option Entry → Option Text
text_in project lang header = option_map (λ h. text_of (catalogue_of project lang h)) header

pub fr_exported : export_text (project_in bonjour_first.0 docs) fr ≡ Some fr_export
fr_exported =
    ap (λ (o : Office). export_text (project_in o docs) fr) left_by_both
    ∙ (ap (λ (p : Project). export_text p fr) docs_after_both
    ∙ (ap (text_in (as_project demo translated_docs) fr) fr_header_there
    ∙ (ap (λ (c : List Entry). Some (text_of c)) fr_catalogue ∙ ap (λ (t : Text). Some t) fr_text_is)))

pub de_exported : export_text (project_in bonjour_first.0 main) de ≡ Some de_export
de_exported =
    ap (λ (o : Office). export_text (project_in o main) de) left_by_both
    ∙ (ap (λ (p : Project). export_text p de) main_after_both
    ∙ (ap (text_in (with_template project_after [] plans_without) de) header_de
    ∙ (ap (λ (c : List Entry). Some (text_of c)) de_catalogue ∙ ap (λ (t : Text). Some t) de_text_is)))
