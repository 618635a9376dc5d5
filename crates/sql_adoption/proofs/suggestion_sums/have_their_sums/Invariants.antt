use Rattle.std.proofs.Common.{◌≡◌, true, take}
use Rattle.std.specs.List.{list_all}
use Rattle.sql_adoption.specs.FigureRows.{has_its_sum}
use Rattle.sql_adoption.proofs.suggestion_sums.have_their_sums.Given as goal

-- the suggestions so far have theirs
abbrev pub invariant-loop-row : goal.invariant-loop-row
invariant-loop-row l = list_all (has_its_sum l.votes l.sums) (take l.row-index l.rows) ≡ true
