use Rattle.std.proofs.Common.{◌≡◌, true, fold, take}
use Rattle.std.specs.FinMap as maps
use Rattle.std.specs.List.{list_all}
use Rattle.sql_schema.specs.Keys.{text_at}
use Rattle.sql_meaning.specs.Shown.{shown_header}
use Rattle.sql_loading.specs.DomainChanged.{ChangesDomain}
use Rattle.sql_decoding.specs.RowTests.{is_language_row}
use Rattle.sql_loading.proofs.office_tables.put_languages.Given as goal

-- the languages of the rows so far, which stand for values
abbrev pub invariant-loop-row : goal.invariant-loop-row
invariant-loop-row l = record {
  shown : ChangesDomain l.domain l.initial.maps l.maps (λ project.
      record project { headers = fold (λ headers row. maps.insert headers (text_at 2 row) (shown_header row)) project.headers (take l.row-index l.rows) });
  stand : list_all is_language_row (take l.row-index l.rows) ≡ true;
}
