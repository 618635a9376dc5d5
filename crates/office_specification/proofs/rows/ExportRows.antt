-- The export of the demo office after its first line: the 138 bytes.
use Rattle.std.specs.Prelude.{◌≡◌, List, [], ◌∷◌, length, Option, Some, is_some, codes, refl, option_map, map, filter, not, ◌&&◌}
use Rattle.std.specs.Option.{option_map_or}
use Rattle.std.proofs.Common.{◌∙◌, ap}
use Rattle.std.specs.FinMap as maps
use Rattle.po_text.specs.declared.entry.Entry.{Entry}
use Rattle.po_text.specs.Texts.{Text, text_eq}
use Rattle.po_write.specs.Text.{text_of, entry_text, string_lines}
use Rattle.units.specs.Project.{Project, Place, place_cmp, units_of, with_unit}
use Rattle.units.specs.Office.{Office, main, project_in, with_project}
use Rattle.units.specs.Units.{all_empty}
use Rattle.units.specs.declared.unit.Unit.{Unit}
use Rattle.units.specs.declared.unit.UnitState.TheVariants.{Translated}
use Rattle.units.specs.Orders.{place_total}
use Rattle.checks.specs.Result.{result_state}
use Rattle.review.specs.UnitStep.{unit_step, refusals, unit_after}
use Rattle.office_specification.specs.Step.{step, act_step}
use Rattle.office_specification.specs.ExportText.{export_text}
use Rattle.office_specification.specs.ExportedEntries.{catalogue_of, translated, obsolete_entry}
use Rattle.units.specs.Openings.{demo, demo_unit, demo_header, plain_entry}
use Rattle.office_specification.proofs.domains.InDomains.{project_own}
use Rattle.office_specification.proofs.rules.DomainNumbers.{no_entries}
use Rattle.office_specification.proofs.rows.DemoRequests.{first_line, lines, demo_project, domain_main, header_de, unit_hello, role_ann, de, hello}

abbrev pub after_one : Unit
after_one = record demo_unit { forms = codes "Hallo" ∷ []; state = Translated; revision = 2 }

abbrev place : Place
place = (de, hello)

abbrev pub units_after : maps.FinMap place_cmp Unit
units_after = maps.insert demo_project.units place after_one

abbrev pub project_after : Project
project_after = with_unit demo_project place after_one

unit_after_one : maps.get units_after place ≡ Some after_one
unit_after_one = maps.get-insert place_total demo_project.units place after_one place

pub entries_after_one : maps.entries units_after ≡ (place, after_one) ∷ []
entries_after_one =
    maps.entries-insert place_total demo_project.units place after_one
    ∙ (ap (maps.put place_cmp place after_one) (maps.entries-insert place_total maps.empty place demo_unit)
    ∙ ap (λ es. maps.put place_cmp place after_one (maps.put place_cmp place demo_unit es)) (no_entries place_cmp))

-- the first line sets the unit
office_after_one : (step demo first_line).0 ≡ with_project demo main project_after
unfolding act_step unit_step refusals unit_after result_state
office_after_one = rw (domain_main, header_de, unit_hello, role_ann) refl

project_after_one : project_in (step demo first_line).0 main ≡ project_after
project_after_one = ap (λ (o : Office). project_in o main) office_after_one ∙ project_own demo main project_after (ap is_some domain_main) (refl, refl)

-- 138 bytes
abbrev first_export : Text
first_export = lines (
    codes "msgid \"\""
    ∷ codes "msgstr \"\""
    ∷ codes "\"Content-Type: text/plain; charset=UTF-8\\n\""
    ∷ codes "\"Plural-Forms: nplurals=2; plural=n != 1;\\n\""
    ∷ []
    ∷ codes "msgid \"Hello\""
    ∷ codes "msgstr \"Hallo\""
    ∷ [])

bytes_of_first_export : length first_export ≡ 138
bytes_of_first_export = refl

abbrev header : Entry
header = plain_entry [] demo_header

abbrev catalogue_after : List Entry
catalogue_after = header ∷ plain_entry (codes "Hello") (codes "Hallo") ∷ []

catalogue_is : catalogue_of project_after de header ≡ catalogue_after
unfolding catalogue_of
catalogue_is =
    ap (λ (unit : Option Unit). header ∷ option_map_or (translated (plain_entry (codes "Hello") [])) unit (plain_entry (codes "Hello") []) ∷ map obsolete_entry (filter (λ u. u.obsolete && not (all_empty u.forms)) (units_of project_after de))) unit_after_one
    ∙ ap (λ (es : List (Place × Unit)). header ∷ plain_entry (codes "Hello") (codes "Hallo") ∷ map obsolete_entry (filter (λ u. u.obsolete && not (all_empty u.forms)) (map (λ e. e.1) (filter (λ e. text_eq de e.0.0) es)))) entries_after_one

text_is : text_of catalogue_after ≡ first_export
unfolding text_of entry_text string_lines
text_is = refl

exported : export_text project_after de ≡ Some first_export
exported =
    ap (λ (h : Option Entry). option_map (λ e. text_of (catalogue_of project_after de e)) h) header_de
    ∙ ap (λ (c : List Entry). Some (text_of c)) catalogue_is
    ∙ ap (λ (t : Text). Some t) text_is

pub first_export_is : export_text (project_in (step demo first_line).0 main) de ≡ Some first_export
first_export_is = ap (λ (p : Project). export_text p de) project_after_one ∙ exported
