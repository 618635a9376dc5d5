use Rattle.std.proofs.Common.{◌≡◌, ◌++◌}
use Rattle.office_maps.specs.LanguageUnits.{taken}
use Rattle.office_maps.proofs.Ranges.{own_of}
use Rattle.office_maps.proofs.unit_rows.units_of.Given as goal

abbrev pub invariant-loop-place : goal.invariant-loop-place
invariant-loop-place l = l.all.items ++ taken l.fn.lang l.place-iterator ≡ own_of l.fn.units l.fn.lang
