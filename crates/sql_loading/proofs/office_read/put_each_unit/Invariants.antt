use Rattle.std.proofs.Common.{◌≡◌, true, take, fold}
use Rattle.std.specs.List.{list_all}
use Rattle.units.specs.Project.{with_unit}
use Rattle.sql_meaning.specs.OfficeShown.{place_shown}
use Rattle.sql_loading.specs.DomainChanged.{ChangesDomain}
use Rattle.sql_decoding.specs.TablesRead.{with_suggestions}
use Rattle.sql_decoding.specs.RowTests.{is_unit_row}
use Rattle.sql_loading.proofs.office_read.put_each_unit.Given as goal

-- the units of the rows so far are put, which stand for values
abbrev pub invariant-loop-row : goal.invariant-loop-row
invariant-loop-row l = record {
  shown : ChangesDomain l.domain l.initial.maps l.maps (λ project. fold (λ p row. with_unit p (place_shown row) (with_suggestions l.suggestions row)) project (take l.row-index l.rows));
  stand : list_all is_unit_row (take l.row-index l.rows) ≡ true;
}
