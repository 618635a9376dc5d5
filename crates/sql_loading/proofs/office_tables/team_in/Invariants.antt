use Rattle.std.proofs.Common.{◌≡◌, true, take}
use Rattle.std.specs.List.{list_all}
use Rattle.office_maps.specs.Rows.{team_in}
use Rattle.sql_meaning.specs.OfficeShown.{team_shown}
use Rattle.sql_decoding.specs.RowTests.{is_member_row}
use Rattle.sql_loading.proofs.office_tables.team_in.Given as goal

-- the team of the rows so far, which stand for values
abbrev pub invariant-loop-row : goal.invariant-loop-row
invariant-loop-row l = record {
  shown : team_in l.team ≡ team_shown (take l.row-index l.rows);
  stand : list_all is_member_row (take l.row-index l.rows) ≡ true;
}
