-- Which units are counted. Only inner clauses and proofs cite this file.
use Rattle.std.specs.Prelude.{Bool, true, false}
use Rattle.units.specs.declared.unit.Unit.{Unit}
use Rattle.office_specification.specs.Approvals.{is_approved_unit, is_last_approved}

-- approved ones, or those of them that are at the last revision
abbrev pub is_counted : Bool → Unit → Bool
is_counted false unit = is_approved_unit unit
is_counted true unit = is_last_approved unit
