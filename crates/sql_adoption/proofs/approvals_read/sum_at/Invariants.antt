use Rattle.std.proofs.Common.{◌≡◌, take}
use Rattle.std.specs.Prelude.{sum_by}
use Rattle.sql_meaning.specs.Values.{natural_at}
use Rattle.sql_adoption.proofs.approvals_read.sum_at.Given as goal

-- the counts of the rows so far
abbrev pub invariant-loop-row : goal.invariant-loop-row
invariant-loop-row l = l.sum ≡ sum_by (natural_at l.fn.at) (take l.row-index l.rows)
