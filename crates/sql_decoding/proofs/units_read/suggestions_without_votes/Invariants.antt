use Rattle.std.proofs.Common.{◌≡◌, true, take}
use Rattle.std.specs.List.{list_all}
use Rattle.std.specs.Prelude.{map}
use Rattle.std.specs.FinMap as maps
use Rattle.sql_decoding.specs.TablesRead.{with_votes}
use Rattle.sql_decoding.specs.RowTests.{is_suggestion}
use Rattle.sql_decoding.proofs.units_read.suggestions_without_votes.Given as goal

-- the suggestions of the rows so far, which stand for values
abbrev pub invariant-loop-row : goal.invariant-loop-row
invariant-loop-row l = record {
  shown : l.all ≡ map (with_votes maps.empty) (take l.row-index l.rows);
  stand : list_all is_suggestion (take l.row-index l.rows) ≡ true;
}
