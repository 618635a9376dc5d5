-- All rows of the tables determine the project that they stand for.
use Rattle.std.proofs.Common.{◌≡◌, sym}
use Rattle.sql_meaning.specs.Meaning.{project_of_rows}
use Rattle.sql_statements.specs.declared.whole_office.WholeOffice.{WholeOffice}
use Rattle.sql_statements.specs.WholeOffice.{ShowsWholeOfficeIn}
use Rattle.sql_meaning.specs.OfficeShown.{project_shown}
use Rattle.sql_meaning.proofs.OfficeTables.{whole_team, whole_policy, whole_headers, whole_template}
use Rattle.sql_meaning.proofs.UnitTables.{whole_units}
use Rattle.sql_schema.specs.Layouts.{NamedRows}
use Rattle.sql_meaning.specs.RowKeys.{AreOfficeRows}

-- by the names of the tables, wherever these are
pub whole_rows : (tables : NamedRows) → AreOfficeRows tables → (rows : WholeOffice) → ShowsWholeOfficeIn tables rows → project_shown rows ≡ project_of_rows tables
whole_rows tables office rows shows =
    let template = whole_template tables office rows.office.template.items shows.office.template in
    let headers = whole_headers tables office rows.office.languages.items shows.office.languages in
    let units = whole_units tables office rows.units shows.units in
    let team = whole_team tables office rows.office.team.items shows.office.team in
    let policy = whole_policy tables office rows.office.policy shows.office.policy in
    let read : project_of_rows tables ≡ project_shown rows = λ i. record { template = template i; headers = headers i; units = units i; team = team i; policy = policy i } in
    sym read
