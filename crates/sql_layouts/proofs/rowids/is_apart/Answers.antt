use Rattle.sqlite.specs.Held.{state}
use Rattle.sql_layouts.proofs.Looks.{fails_to_look}
use Rattle.sql_schema.proofs.Unread.{unread_told}
use Rattle.sql_layouts.proofs.RowidQueries.{apart_told, rowids_unread}
use Rattle.sql_layouts.proofs.rowids.is_apart.Goals as goal

pub returns-in_err-rows-clause-found : goal.returns-in_err-rows-clause-found
returns-in_err-rows-clause-found g c =
    λ form table over is. fails_to_look _ _ (state g.S.Store c.args.tx.now.conn.now) (state g.S.Store c.query_all.new.self.conn.now) _ c.from_residual.result _ c.from_residual.ensures.0 c.in_err-rows.ensures.err c.query_all.ensures.survives

pub returns-clause-found : goal.returns-clause-found
returns-clause-found g c =
    λ form table over is. apart_told c.args.query.now table is (state g.S.Store c.args.tx.now.conn.now) (state g.S.Store c.query_all.new.self.conn.now) c.in_ok-rows.rows.items c.are_rising.result
    over c.in_ok-rows.ensures.ok c.query_all.ensures.survives (rw c.deref.ensures.value at c.are_rising.ensures)

pub returns-in_err-rows-clause-errors : goal.returns-in_err-rows-clause-errors
returns-in_err-rows-clause-errors g c =
    let old = state g.S.Store c.args.tx.now.conn.now in
    let new = state g.S.Store c.query_all.new.self.conn.now in
    λ form table over is.
    unread_told old new c.in_err-rows.field-0.0 c.from_residual.result c.from_residual.ensures.1 (rowids_unread c.args.query.now table is old new c.in_err-rows.field-0.0 over c.in_err-rows.ensures.err c.query_all.ensures.survives)
