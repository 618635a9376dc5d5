-- The tables of a connection that keeps an office: each row is of a domain that there is, what a domain sees is as a schema asks, and sums and tallies
-- are what counting the rows gives.
use Rattle.std.proofs.Common.{IsTrue}
use Rattle.sqlite.specs.State.{State, HasCleanDisk}
use Rattle.po_text.specs.Texts.{Text}
use Rattle.sql_schema.specs.Layouts.{by_domain, rows_named}
use Rattle.sql_schema.specs.SeenRows.{seen_in}
use Rattle.sql_meaning.specs.Domains.{HoldsOwnDomains}
use Rattle.sql_meaning.specs.RowKeys.{AreOfficeRows}
use Rattle.sql_meaning.proofs.DomainOfficeRows.{domain_rows}
use Rattle.sql_figures.specs.Figures.{HasFigures}
use Rattle.sql_files.specs.Files.{IsOfficeDatabase}
use Rattle.sql_files.proofs.Listed.{file_read}
use Rattle.store_sql.specs.TablesInFile.{KeepsOffice}

module _ (s : State) (keeps : KeepsOffice s) (clean : HasCleanDisk s) (is_open : IsTrue s.is_open) where
  pub own_file : IsOfficeDatabase by_domain s.now
  own_file = file_read by_domain s.now (keeps.idle.ready clean is_open) (keeps.file clean is_open)

  -- each row is of a domain that there is
  pub own_domains : HoldsOwnDomains (rows_named s.now)
  own_domains = own_file.rows.office.own

  -- sums and tallies are what counting the rows gives
  pub own_figures : HasFigures (rows_named s.now)
  own_figures = own_file.rows.figures

  -- the rows that a domain sees are as a schema asks
  pub seen_rows : (domain : Text) → AreOfficeRows (seen_in domain (rows_named s.now))
  seen_rows = domain_rows s.now (keeps.idle.ready clean is_open)
