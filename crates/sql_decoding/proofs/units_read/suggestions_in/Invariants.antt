use Rattle.std.proofs.Common.{◌≡◌, true, take}
use Rattle.std.specs.List.{list_all}
use Rattle.std.specs.Prelude.{map}
use Rattle.sql_decoding.specs.ShownContexts.{suggestion_shown}
use Rattle.sql_decoding.specs.RowTests.{is_suggestion_with_votes}
use Rattle.sql_decoding.proofs.units_read.suggestions_in.Given as goal

-- the suggestions of the rows so far, which stand for values
abbrev pub invariant-loop-row : goal.invariant-loop-row
invariant-loop-row l = record {
  shown : l.all ≡ map suggestion_shown (take l.row-index l.rows);
  stand : list_all is_suggestion_with_votes (take l.row-index l.rows) ≡ true;
}
