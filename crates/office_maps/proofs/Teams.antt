-- How many names a team has, and how many languages an office.
use Rattle.std.proofs.Common.{◌≡◌, length, ap, ◌∙◌, string_bytes}
use Rattle.std.specs.Prelude.{String}
use Rattle.std.specs.BTreeMap.{BTreeMap, IsOrdered}
use Rattle.std.specs.FinMap as maps
use Rattle.std.proofs.lemmas.List.{length-map}
use Rattle.po_text.specs.Texts.{text_cmp}
use Rattle.units.specs.declared.unit.Role.{Role}
use Rattle.units.specs.Orders.{text_total, text_IsAntisymmetric}
use Rattle.office_maps.specs.Rows.{team_in, headers_in}
use Rattle.office_specification.specs.declared.values.Language.{Language}
use Rattle.office_maps.specs.MapEntries.{mapped}
use Rattle.office_maps.proofs.OrderedEntries.{entries-mapped}

module _ {A : Type 0} (team : BTreeMap (String A) Role) (ordered : IsOrdered (λ x y. text_cmp (string_bytes x) (string_bytes y)) team) where
  pub team_entries : maps.entries (team_in team) ≡ mapped string_bytes (λ role. role) team.entries
  team_entries = entries-mapped text_total text_IsAntisymmetric string_bytes (λ role. role) team ordered

  pub team_len : maps.len (team_in team) ≡ length team.entries
  team_len = maps.len-entries (team_in team) ∙ (ap length team_entries ∙ length-map team.entries (λ (e : String A × Role). (string_bytes e.0, e.1)))

-- how many languages
pub language_len : {A : Type 0} (rows : BTreeMap (String A) Language) → IsOrdered (λ x y. text_cmp (string_bytes x) (string_bytes y)) rows → maps.len (headers_in rows) ≡ length rows.entries
language_len {A} rows ordered =
    maps.len-entries (headers_in rows)
    ∙ (ap length (entries-mapped text_total text_IsAntisymmetric string_bytes (λ language. language.header) rows ordered) ∙ length-map rows.entries (λ (e : String A × Language). (string_bytes e.0, e.1.header)))
