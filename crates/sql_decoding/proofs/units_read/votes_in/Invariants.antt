use Rattle.std.proofs.Common.{◌≡◌, true, take}
use Rattle.std.specs.List.{list_all}
use Rattle.sql_meaning.specs.Shown.{shown_votes}
use Rattle.sql_decoding.specs.RowTests.{is_vote_on}
use Rattle.sql_decoding.proofs.units_read.votes_in.Given as goal

-- the votes of the rows so far, which stand for values
abbrev pub invariant-loop-row : goal.invariant-loop-row
invariant-loop-row l = record {
  shown : l.votes ≡ shown_votes (take l.row-index l.rows);
  stand : list_all is_vote_on (take l.row-index l.rows) ≡ true;
}
