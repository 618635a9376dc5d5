use Rattle.sqlite.specs.Held.{state}
use Rattle.sql_schema.proofs.Unread.{unread_told}
use Rattle.sql_layouts.proofs.WholeTest.{none_by_rows}
use Rattle.sql_layouts.proofs.offices.form_by_rows.Goals as goal

pub returns-else-branch-clause-tested : goal.returns-else-branch-clause-tested
returns-else-branch-clause-tested g c =
    none_by_rows c.args.form (state g.S.Store c.args.connection.now) (state g.S.Store c.is_office_by_rows.new.connection) c.requires.schema c.in_ok-is_office_by_rows.field-0 c.if-branch.false
    c.in_ok-is_office_by_rows.ensures.tested

pub returns-in_err-is_office_by_rows-clause-errors : goal.returns-in_err-is_office_by_rows-clause-errors
returns-in_err-is_office_by_rows-clause-errors g c =
    unread_told (state g.S.Store c.args.connection.now) (state g.S.Store c.is_office_by_rows.new.connection) c.in_err-is_office_by_rows.field-0.0 c.from_residual.result c.from_residual.ensures.1 c.in_err-is_office_by_rows.ensures.errors
