use Rattle.std.proofs.Common.{◌≡◌, drop, None}
use Rattle.sql_layouts.specs.RisingRows as spec
use Rattle.sql_layouts.proofs.rowids.are_rising.Given as goal

abbrev pub invariant-loop-row : goal.invariant-loop-row
invariant-loop-row l = spec.are_rising l.last (drop l.row-index l.rows) ≡ spec.are_rising None l.rows
