-- A unit's update in two steps, its revision apart: this project's own words, for inner functions.
use Rattle.std.specs.Prelude.{ℕ, ◌+◌, if◌then◌else◌, Option, Some, None}
use Rattle.plural_expr.specs.Values.{Rule}
use Rattle.po_text.specs.declared.entry.Entry.{Entry}
use Rattle.po_text.specs.Texts.{Text}
use Rattle.units.specs.declared.unit.Unit.{Unit}
use Rattle.template_update.specs.declared.update.UnitUpdate.{UnitUpdate}
use Rattle.template_update.specs.declared.update.UnitUpdate.TheVariants.{Changed, Kept, Gone, Revived, Untouched}
use Rattle.template_update.specs.Units.{refit, has_revision}
use Rattle.template_update.specs.Updates.{update_by, still_suggested, put_away, taken_back, updated}

abbrev pub revision_by : UnitUpdate → ℕ → ℕ
revision_by Changed number = number + 1
revision_by Kept number = number
revision_by Gone number = number + 1
revision_by Revived number = number + 1
revision_by Untouched number = number

-- the unit afterwards, at the revision before
abbrev pub moved_by : Rule → UnitUpdate → Option Text → Unit → Unit
moved_by rule Changed plural unit = refit rule plural (still_suggested rule plural unit)
moved_by rule Kept plural unit = unit
moved_by rule Gone plural unit = put_away unit
moved_by rule Revived plural unit = refit rule plural (taken_back unit)
moved_by rule Untouched plural unit = unit

-- what becomes of a unit and the unit afterwards, if its revision is within the limit
abbrev pub updated_within : Rule → Option Entry → Option Entry → Unit → Option (UnitUpdate × Unit)
updated_within rule present next unit =
    if has_revision (updated rule present next unit) then Some (update_by present next unit, updated rule present next unit) else None
