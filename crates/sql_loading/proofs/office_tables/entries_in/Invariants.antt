use Rattle.std.proofs.Common.{◌≡◌, true, take}
use Rattle.std.specs.List.{list_all}
use Rattle.sql_meaning.specs.OfficeShown.{template_shown}
use Rattle.sql_decoding.specs.RowTests.{is_entry_row}
use Rattle.sql_loading.proofs.office_tables.entries_in.Given as goal

-- the entries of the rows so far, which stand for values
abbrev pub invariant-loop-row : goal.invariant-loop-row
invariant-loop-row l = record {
  shown : l.entries.items ≡ template_shown (take l.row-index l.rows);
  stand : list_all is_entry_row (take l.row-index l.rows) ≡ true;
}
