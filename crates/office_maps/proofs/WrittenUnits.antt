-- What a write leaves of the unit at a key, from the unit that is there.
use Rattle.std.proofs.Common.{◌≡◌, Option, Some, option_map, ap}
use Rattle.std.specs.FinMap as maps
use Rattle.po_text.specs.Texts.{Text}
use Rattle.units.specs.Project.{Project, entry_of}
use Rattle.units.specs.declared.unit.Key.{Key}
use Rattle.units.specs.declared.unit.Unit.{Unit}
use Rattle.units.specs.declared.unit.UnitView.{UnitView}
use Rattle.office_specification.specs.declared.values.UnitWrite.{UnitWrite}
use Rattle.office_specification.specs.UnitAccess.{view_written, written_at}

module _ (project : Project) (lang : Text) (key : Key) (write : UnitWrite) where
  abbrev seen : Unit → UnitView
  seen unit = record { unit = unit; source = entry_of project.template key }

  abbrev left_of : Option Unit → Option Unit
  left_of there = option_map (λ (view : UnitView). view.unit) (option_map (view_written write) (option_map seen there))

  pub unit_written_at : (found : Option Unit) → found ≡ maps.get project.units (lang, key) → left_of found ≡ option_map (λ (view : UnitView). view.unit) (written_at project lang key (Some write))
  unit_written_at found is = ap left_of is
