use Rattle.std.proofs.Common.{◌≡◌, true, take}
use Rattle.std.specs.List.{list_all}
use Rattle.po_text.specs.Texts.{Text}
use Rattle.sql_decoding.specs.TablesRead.{suggestions_of, suggestions_among}
use Rattle.sql_decoding.specs.RowTests.{is_suggestion_row}
use Rattle.sql_loading.proofs.unit_tables.suggestions_by_unit.Given as goal

-- the suggestions of the rows so far, which stand for values
abbrev pub invariant-loop-row : goal.invariant-loop-row
invariant-loop-row l = record {
  shown : (lang key : Text) → suggestions_of l.all lang key ≡ suggestions_among l.votes (take l.row-index l.rows) lang key;
  stand : list_all is_suggestion_row (take l.row-index l.rows) ≡ true;
}
