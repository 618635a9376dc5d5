-- The counts of a language's units are those of its rows.
use Rattle.std.proofs.Common.{◌≡◌, Bool, cond, List, [], ◌∷◌, map, filter, sym, ◌∙◌, codes}
use Rattle.std.specs.FinMap as maps
use Rattle.sqlite.specs.Order.{Row}
use Rattle.sql_laws.specs.ApartRows.{AreOnce}
use Rattle.sql_laws.specs.RowMaps.{OneEach}
use Rattle.po_text.specs.Texts.{Text, text_eq}
use Rattle.units.specs.Orders.{place_total, place_IsAntisymmetric}
use Rattle.units.specs.Project.{Project, Place, place_cmp, units_of}
use Rattle.units.specs.declared.unit.Unit.{Unit}
use Rattle.office_specification.specs.Counting.{none_counted}
use Rattle.office_specification.specs.Tally.{counts_in}
use Rattle.office_specification.specs.declared.tally.Tally.{Tally}
use Rattle.sql_schema.specs.Keys.{text_at}
use Rattle.sql_schema.specs.Layouts.{NamedRows}
use Rattle.sql_meaning.specs.Meaning.{place_of_row, unit_of_row, units_in, project_of_rows}
use Rattle.sql_meaning.specs.RowKeys.{AreOfficeRows}
use Rattle.sql_meaning.proofs.Units.{by_place}
use Rattle.sql_adoption.proofs.CountedValues.{entries_permuted}
use Rattle.sql_adoption.proofs.CountsPermuted.{add_all, added_permuted, added_passing, added_mapped, units_counted}

module _ (tables : NamedRows) (are : AreOfficeRows tables) (once : AreOnce (tables (codes "unit"))) (lang : Text) where
  abbrev project : Project
  project = project_of_rows tables

  abbrev rows : List Row
  rows = tables (codes "unit")

  abbrev unit_counts : Unit → Tally
  unit_counts unit = counts_in project.template (unit ∷ [])

  abbrev own : Place × Unit → Bool
  own e = text_eq lang e.0.0

  abbrev entry_counts : Place × Unit → Tally
  entry_counts e = unit_counts e.1

  abbrev entry : Row → Place × Unit
  entry u = (place_of_row u, unit_of_row tables u)

  abbrev some_counts : Place × Unit → Tally
  some_counts e = cond (own e) (entry_counts e) none_counted

  one_each : OneEach place_of_row rows
  one_each r s in_r in_s e = are.keyed.one_unit r s in_r in_s (by_place.back r s tt tt e)

  pub language_counts : counts_in project.template (units_of project lang) ≡ add_all (λ u. unit_counts (unit_of_row tables u)) none_counted (filter (λ u. text_eq lang (text_at 1 u)) rows)
  language_counts =
      sym (units_counted project.template (units_of project lang))
      ∙ added_mapped unit_counts (λ (e : Place × Unit). e.1) none_counted (filter own (maps.entries (units_in tables)))
      ∙ added_passing entry_counts own none_counted (maps.entries (units_in tables))
      ∙ added_permuted some_counts none_counted (map entry rows) (maps.entries (units_in tables)) (entries_permuted place_cmp place_total place_IsAntisymmetric place_of_row (unit_of_row tables) rows once one_each)
      ∙ added_mapped some_counts entry none_counted rows
      ∙ sym (added_passing (λ u. unit_counts (unit_of_row tables u)) (λ u. text_eq lang (text_at 1 u)) none_counted rows)
