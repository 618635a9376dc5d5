-- The counts of a language, by what a look-up of it gives.
use Rattle.std.proofs.Common.{◌≡◌, Option, Some, None, option_map, refl, sym, ap, ◌∙◌, string_bytes}
use Rattle.std.specs.BTreeMap.{get_by}
use Rattle.po_text.specs.declared.entry.Entry.{Entry}
use Rattle.po_text.specs.Texts.{Text, text_cmp}
use Rattle.units.specs.Project.{units_of}
use Rattle.office_specification.specs.declared.values.Language.{Language}
use Rattle.office_specification.specs.Tally.{counts_in, counts_of}
use Rattle.office_maps.specs.declared.project_maps.ProjectMaps.{ProjectMaps}
use Rattle.office_maps.specs.OfficeIn.{lent_project}
use Rattle.office_maps.proofs.OfficeLookUps.{header_at}

map_either : {A B C : Type 0} (f : A → B) (x : C) (o : Option A) → option_map (λ (a : A). x) o ≡ option_map (λ (b : B). x) (option_map f o)
map_either f x None = refl
map_either f x (Some a) = refl

pub counts_by : (t : ProjectMaps) (lang : Text) (found : Option Language) → found ≡ get_by (λ k. text_cmp lang (string_bytes k)) t.domain.now.languages.rows
    → option_map (λ (language : Language). counts_in t.domain.now.template.catalogue (units_of (lent_project t) lang)) found ≡ counts_of (lent_project t) lang
counts_by t lang found e =
    map_either (λ (language : Language). language.header) (counts_in t.domain.now.template.catalogue (units_of (lent_project t) lang)) found
    ∙ ap (option_map (λ (header : Entry). counts_in t.domain.now.template.catalogue (units_of (lent_project t) lang)))
    (ap (option_map (λ (language : Language). language.header)) e ∙ sym (header_at t lang))
