use Rattle.std.proofs.Common.{◌≡◌, true, take, map}
use Rattle.std.specs.List.{list_all}
use Rattle.sql_schema.specs.Keys.{text_at}
use Rattle.sql_decoding.specs.RowTests.{is_domain_row}
use Rattle.sql_adoption.proofs.domains_read.names_in.Given as goal

-- the names of the rows so far, which stand for values
abbrev pub invariant-loop-row : goal.invariant-loop-row
invariant-loop-row l = record {
  shown : l.names.items ≡ map (text_at 0) (take l.row-index l.rows);
  stand : list_all is_domain_row (take l.row-index l.rows) ≡ true;
}
