use Rattle.std.proofs.Common.{◌≡◌, take}
use Rattle.po_text.specs.Texts.{Text}
use Rattle.sql_adoption.specs.FigureRows.{sum_in, sum_shown}
use Rattle.sql_adoption.proofs.suggestion_sums.sums_by_number.Given as goal

-- the sums of the rows so far
abbrev pub invariant-loop-row : goal.invariant-loop-row
invariant-loop-row l = (number : Text) → sum_in l.all number ≡ sum_shown (take l.row-index l.rows) number
