use Rattle.std.proofs.Common.{◌≡◌, take}
use Rattle.office_maps.specs.OfficeIn.{office_in}
use Rattle.sql_adoption.specs.PartsRead.{with_named}
use Rattle.sql_adoption.proofs.parts_read.put_named.Given as goal

-- the domains of the rows so far are put in
abbrev pub invariant-loop-row : goal.invariant-loop-row
invariant-loop-row l = office_in l.maps ≡ with_named (office_in l.fn.maps) (take l.row-index l.rows)
