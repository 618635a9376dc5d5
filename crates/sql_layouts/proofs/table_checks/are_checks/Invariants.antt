use Rattle.std.proofs.Common.{◌≡◌, map, take}
use Rattle.sqlite_schema.specs.Code.{terms_in}
use Rattle.sql_layouts.specs.Checks.{check_of}
use Rattle.sql_layouts.proofs.table_checks.are_checks.Given as goal

-- the tests so far are as they are told
abbrev pub invariant-loop-i : goal.invariant-loop-i
invariant-loop-i l = terms_in l.nodes (take l.i l.roots) ≡ map check_of (take l.i l.checks)
