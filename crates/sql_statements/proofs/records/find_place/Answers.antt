use Rattle.std.proofs.Common.{arith}
use Rattle.sqlite.specs.Held.{state}
use Rattle.sql_laws.proofs.DiskErrors.{failed_query_blames}
use Rattle.sql_schema.proofs.Queries.{fails_to_read}
use Rattle.sql_statements.proofs.RecordsInOrder.{finds_place, place_unread}
use Rattle.sql_statements.proofs.ReadsUnread.{failed_unread}
use Rattle.sql_statements.proofs.records.find_place.Goals as goal

pub returns-in_err-places-clause-found : goal.returns-in_err-places-clause-found
returns-in_err-places-clause-found g c form steady =
    fails_to_read _ _ (state g.S.Store c.args.tx.now.conn.now) (state g.S.Store c.query_all.new.self.conn.now) _ c.from_residual.result _ c.from_residual.ensures.0 c.in_err-places.ensures.err c.query_all.ensures.survives

pub returns-clause-found : goal.returns-clause-found
returns-clause-found g c form steady =
    finds_place c.args.number.now (state g.S.Store c.args.tx.now.conn.now) (state g.S.Store c.query_all.new.self.conn.now) c.in_ok-places.places.items c.pop.new.self.items c.pop.result steady
    (rw c.params-to_sql.ensures at c.in_ok-places.ensures.ok) c.query_all.ensures.survives c.pop.ensures.items (λ some. c.pop.ensures.variant.1 (omega (arith, c.in_ok-places.places.ok)))

pub returns-in_err-places-clause-disk : goal.returns-in_err-places-clause-disk
returns-in_err-places-clause-disk g c =
    failed_query_blames _ _ (state g.S.Store c.args.tx.now.conn.now) (state g.S.Store c.query_all.new.self.conn.now) _ c.from_residual.result c.from_residual.ensures.1 c.in_err-places.ensures.err

pub returns-in_err-places-clause-errors : goal.returns-in_err-places-clause-errors
returns-in_err-places-clause-errors g c form steady =
    failed_unread _ _ (place_unread c.args.number.now) (state g.S.Store c.args.tx.now.conn.now) (state g.S.Store c.query_all.new.self.conn.now) _ c.from_residual.result c.from_residual.ensures.1 steady (rw c.params-to_sql.ensures at c.in_err-places.ensures.err) c.query_all.ensures.survives
