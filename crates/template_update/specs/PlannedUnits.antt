-- The loops over a language's units: this project's own words, for inner functions.
use Rattle.std.specs.Prelude.{◌≡◌, List, map, Bool, true, false, Option, MatchOption}
use Rattle.std.specs.List.{list_all}
use Rattle.plural_expr.specs.Values.{Rule}
use Rattle.po_text.specs.declared.entry.Entry.{Entry}
use Rattle.units.specs.declared.unit.Unit.{Unit}
use Rattle.template_update.specs.declared.update.UnitUpdate.{UnitUpdate}
use Rattle.template_update.specs.declared.updates.UpdatedUnits.{UpdatedUnits}
use Rattle.template_update.specs.Units.{has_revision}
use Rattle.template_update.specs.Updates.{update_of, updated_unit}

-- whether each unit afterwards has a revision within the limit
abbrev pub have_revisions : List Entry → List Entry → Rule → List Unit → Bool
have_revisions present next rule units = list_all has_revision (map (updated_unit present next rule) units)

-- the units afterwards and what became of each, within the limit
pub record AreUpdated (present next : List Entry) (rule : Rule) (units done : List Unit) (updates : List UnitUpdate) : Type 0 where
  pub after : done ≡ map (updated_unit present next rule) units
  pub told : updates ≡ map (update_of present next) units
  pub within : have_revisions present next rule units ≡ true

-- what all units come to; nothing where a revision would pass the limit
abbrev pub HaveUpdates : List Entry → List Entry → Rule → List Unit → Option UpdatedUnits → Type 0
HaveUpdates present next rule units done = MatchOption done (have_revisions present next rule units ≡ false) (λ all. AreUpdated present next rule units all.units.items all.updates.items)
