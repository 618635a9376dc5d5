use Rattle.std.proofs.Common.{take}
use Rattle.std.specs.Prelude.{All}
use Rattle.sql_keepable.specs.Keepable.{IsKeepableUnit}
use Rattle.sql_keepable.proofs.unit_parts.units_fit.Given as goal

abbrev pub invariant-loop-unit : goal.invariant-loop-unit
invariant-loop-unit l = All (IsKeepableUnit l.lang) (take l.unit-index l.units)
