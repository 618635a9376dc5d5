use Rattle.sqlite.specs.Held.{state}
use Rattle.sql_layouts.specs.Tables.{form_told}
use Rattle.sql_layouts.proofs.WholeTest.{office_told}
use Rattle.sql_layouts.proofs.offices.holds_office.Goals as goal

pub returns-clause-found : goal.returns-clause-found
returns-clause-found g c =
    office_told (form_told c.args.form) (state g.S.Store c.args.tx.now.conn.now) (state g.S.Store c.are_tables_apart.new.tx.conn.now) c.requires.over c.are_tables_apart.result c.are_tables_apart.ensures.found
