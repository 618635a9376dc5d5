use Rattle.std.proofs.Common.{◌≡◌, true, take}
use Rattle.std.specs.List.{list_all}
use Rattle.po_text.specs.Texts.{Text}
use Rattle.sql_meaning.specs.OfficeShown.{votes_shown}
use Rattle.sql_decoding.specs.TablesRead.{votes_of}
use Rattle.sql_decoding.specs.RowTests.{is_vote_row}
use Rattle.sql_loading.proofs.unit_tables.votes_by_number.Given as goal

-- the votes of the rows so far, which stand for values
abbrev pub invariant-loop-row : goal.invariant-loop-row
invariant-loop-row l = record {
  shown : (number : Text) → votes_of l.all number ≡ votes_shown (take l.row-index l.rows) number;
  stand : list_all is_vote_row (take l.row-index l.rows) ≡ true;
}
