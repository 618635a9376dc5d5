-- What is written of a language, by what a look-up of it gives.
use Rattle.std.proofs.Common.{◌≡◌, Bor, Option, Some, None, option_map, refl, sym, ap, subst, ◌∙◌, string_bytes}
use Rattle.std.specs.BTreeMap.{get_by}
use Rattle.std.specs.FinMap as maps
use Rattle.std.specs.Option.{option_copied}
use Rattle.po_text.specs.declared.entry.Entry.{Entry}
use Rattle.po_text.specs.Texts.{Text, text_cmp}
use Rattle.units.specs.Project.{units_of}
use Rattle.office_specification.specs.declared.values.Language.{Language}
use Rattle.office_maps.specs.declared.project_maps.ProjectMaps.{ProjectMaps}
use Rattle.office_maps.specs.OfficeIn.{lent_project}
use Rattle.office_maps.proofs.OfficeLookUps.{header_at}
use Rattle.sql_schema.specs.Layouts.{NamedRows}
use Rattle.sql_conversion.specs.Conversion.{WritesWhole, WritesIf, WritesThere}

module _ (t : ProjectMaps) (lang : Text) where
  pub found_there : (found : Option (Bor Language)) → option_copied found ≡ get_by (λ k. text_cmp lang (string_bytes k)) t.domain.now.languages.rows
      → maps.get (lent_project t).headers lang ≡ option_map (λ (language : Language). language.header) (option_copied found)
  found_there found e = header_at t lang ∙ ap (option_map (λ (language : Language). language.header)) (sym e)

  pub writes_found : (language : Language) (found : Option (Bor Language)) → option_copied found ≡ get_by (λ k. text_cmp lang (string_bytes k)) t.domain.now.languages.rows
      → option_copied found ≡ Some language → (old new : NamedRows) → WritesWhole lang language.header (units_of (lent_project t) lang) old new → WritesThere (lent_project t) lang old new
  writes_found language found e is old new made =
      subst (λ (o : Option Entry). WritesIf o (lent_project t) lang old new) (sym (found_there found e ∙ ap (option_map (λ (l : Language). l.header)) is)) made

  pub writes_none : (found : Option (Bor Language)) → option_copied found ≡ get_by (λ k. text_cmp lang (string_bytes k)) t.domain.now.languages.rows → option_copied found ≡ None → (rows : NamedRows)
      → WritesThere (lent_project t) lang rows rows
  writes_none found e is rows = subst (λ (o : Option Entry). WritesIf o (lent_project t) lang rows rows) (sym (found_there found e ∙ ap (option_map (λ (l : Language). l.header)) is)) refl
