-- The numbers that values are written as. This project's own rule; states are those of Weblate's documentation ("Translation
-- states"), statuses those of RFC 9110 ("HTTP Semantics").
use Rattle.std.specs.Prelude.{ℤ, pos, Bool, true, false, List, [], ◌∷◌, Option, Some, None, if◌then◌else◌}
use Rattle.std.specs.Ordering.{int_eq}
use Rattle.units.specs.declared.unit.UnitState.{UnitState}
use Rattle.units.specs.declared.unit.UnitState.TheVariants.{Untranslated, NeedsEditing, Translated, Approved}
use Rattle.units.specs.declared.unit.Role.{Role}
use Rattle.units.specs.declared.unit.Role.TheVariants.{Guest, Translator, Reviewer, Manager}
use Rattle.units.specs.declared.unit.Policy.{Policy}
use Rattle.sql_columns.specs.declared.policy.PolicyColumns.{PolicyColumns}

-- 1 where it holds
abbrev pub flag_number : Bool → ℤ
flag_number false = pos 0
flag_number true = pos 1

abbrev pub state_number : UnitState → ℤ
state_number Untranslated = pos 0
state_number NeedsEditing = pos 1
state_number Translated = pos 2
state_number Approved = pos 3

-- a guest isn't in the team, and has no row
abbrev pub role_number : Role → Option ℤ
role_number Guest = None
role_number Translator = Some (pos 1)
role_number Reviewer = Some (pos 2)
role_number Manager = Some (pos 3)

abbrev pub policy_numbers : Policy → PolicyColumns
policy_numbers policy = record {
  reviews = flag_number policy.reviews;
  guests_suggest = flag_number policy.guests_suggest;
  voting = flag_number policy.voting;
  accept_at = pos policy.accept_at;
  placeholders = flag_number policy.placeholders;
  line_ends = flag_number policy.line_ends;
}
