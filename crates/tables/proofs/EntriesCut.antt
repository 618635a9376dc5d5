-- The entries of a language, cut as they are handed on.
use Rattle.std.proofs.Common.{◌≡◌, Bool, true, false, cond, not, ◌&&◌, List, [], ◌∷◌, ◌++◌, Option, Some, None, map, filter, sym, ap, ◌∙◌, refl, option_map, string_bytes}
use Rattle.std.specs.Option.{option_map_or}
use Rattle.std.specs.BTreeMap.{get_by}
use Rattle.po_text.specs.declared.entry.Entry.{Entry}
use Rattle.po_text.specs.Texts.{Text, text_cmp, text_eq}
use Rattle.units.specs.Units.{key_of, all_empty}
use Rattle.units.specs.Project.{Project, place_cmp, units_of}
use Rattle.units.specs.declared.unit.Key.{Key}
use Rattle.units.specs.declared.unit.Unit.{Unit}
use Rattle.office_specification.specs.declared.values.Language.{Language}
use Rattle.office_specification.specs.ExportedEntries.{catalogue_of, translated, obsolete_entry}
use Rattle.office_specification.specs.EntryTexts.{with_its_unit}
use Rattle.office_maps.specs.declared.project_maps.ProjectMaps.{ProjectMaps}
use Rattle.office_maps.specs.OfficeIn.{lent_project, place_of}
use Rattle.office_maps.proofs.OfficeLookUps.{header_at, unit_at}
use Rattle.tables.specs.Entries.{entries_of}
use Rattle.office_maps.specs.declared.place.Place.{Place}
use Rattle.office_maps.specs.LanguageUnits.{taken}
use Rattle.tables.specs.Handing.{obsolete_entries}
use Rattle.tables.proofs.LanguageUnits.{next_own}

-- what a look-up of the unit gives
pub with_unit_found : (t : ProjectMaps) (lang own : Text) (key : Key) (entry : Entry) (found : Option Unit) → own ≡ lang → key ≡ key_of entry → found ≡ get_by (λ k. place_cmp (own, key) (place_of k)) t.domain.now.units
    → option_map_or (translated entry) found entry ≡ with_its_unit (lent_project t) lang entry
with_unit_found t lang own key entry found same_lang same_key e =
    ap (λ o. option_map_or (translated entry) o entry)
    (e ∙ (λ i. get_by (λ k. place_cmp (same_lang i, same_key i) (place_of k)) t.domain.now.units) ∙ sym (unit_at t (lang, key_of entry)))

-- the header, the template's entries, and those of what is put away
catalogue_cut : (project : Project) (lang : Text) (header : Entry) → catalogue_of project lang header ≡ header ∷ map (with_its_unit project lang) project.template ++ obsolete_entries (units_of project lang)
unfolding catalogue_of
catalogue_cut project lang header = refl

pub entries_there : (t : ProjectMaps) (lang : Text) (language : Language) → Some language ≡ get_by (λ k. text_cmp lang (string_bytes k)) t.domain.now.languages.rows
    → entries_of (lent_project t) lang ≡ language.header ∷ map (with_its_unit (lent_project t) lang) t.domain.now.template.catalogue ++ obsolete_entries (units_of (lent_project t) lang)
entries_there t lang language found =
    ap (λ (o : Option Entry). option_map_or (catalogue_of (lent_project t) lang) o []) (header_at t lang ∙ sym (ap (option_map (λ (l : Language). l.header)) found))
    ∙ catalogue_cut (lent_project t) lang language.header

pub no_entries : (t : ProjectMaps) (lang : Text) → None ≡ get_by (λ k. text_cmp lang (string_bytes k)) t.domain.now.languages.rows → entries_of (lent_project t) lang ≡ []
no_entries t lang none = ap (λ (o : Option Entry). option_map_or (catalogue_of (lent_project t) lang) o []) (header_at t lang ∙ sym (ap (option_map (λ (l : Language). l.header)) none))

-- ---- what is put away, one unit after another

obsolete_more : (unit : Unit) (units : List Unit) → obsolete_entries (unit ∷ units) ≡ obsolete_entries (unit ∷ []) ++ obsolete_entries units
obsolete_more unit units = by (unit.obsolete && not (all_empty unit.forms))
  where
    by : (b : Bool) → map obsolete_entry (cond b (unit ∷ filter (λ u. u.obsolete && not (all_empty u.forms)) units) (filter (λ u. u.obsolete && not (all_empty u.forms)) units)) ≡ map obsolete_entry (cond b (unit ∷ []) []) ++ obsolete_entries units
    by true = refl
    by false = refl

-- the next unit of a language
pub next_obsolete : (lang : Text) (e : Place × Unit) (left next : List (Place × Unit)) → left ≡ e ∷ next → text_eq lang e.0.lang ≡ true
    → obsolete_entries (taken lang left) ≡ obsolete_entries (e.1 ∷ []) ++ obsolete_entries (taken lang next)
next_obsolete lang e left next is own = ap obsolete_entries (next_own lang e left next is own) ∙ obsolete_more e.1 (taken lang next)

-- the template's entries, as they are read
pub template_left : (t : ProjectMaps) (lang : Text) (entries : List Entry) → entries ≡ t.domain.now.template.catalogue
    → map (with_its_unit (lent_project t) lang) t.domain.now.template.catalogue ++ obsolete_entries (units_of (lent_project t) lang) ≡ map (with_its_unit (lent_project t) lang) entries ++ obsolete_entries (units_of (lent_project t) lang)
template_left t lang entries same = ap (λ es. map (with_its_unit (lent_project t) lang) es ++ obsolete_entries (units_of (lent_project t) lang)) (sym same)
