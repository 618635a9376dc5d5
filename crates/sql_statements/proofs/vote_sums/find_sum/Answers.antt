use Rattle.std.proofs.Common.{arith}
use Rattle.sqlite.specs.Held.{state}
use Rattle.sql_laws.proofs.DiskErrors.{failed_query_blames}
use Rattle.sql_schema.proofs.Queries.{fails_to_read}
use Rattle.sql_statements.proofs.VoteSums.{finds_sum, find_unread}
use Rattle.sql_statements.proofs.ReadsUnread.{failed_unread}
use Rattle.sql_statements.proofs.vote_sums.find_sum.Goals as goal

pub returns-in_err-rows-clause-found : goal.returns-in_err-rows-clause-found
returns-in_err-rows-clause-found g c =
    fails_to_read _ _ (state g.S.Store c.args.tx.now.conn.now) (state g.S.Store c.query_all.new.self.conn.now) _ c.from_residual.result _ c.from_residual.ensures.0 c.in_err-rows.ensures.err c.query_all.ensures.survives

pub returns-clause-found : goal.returns-clause-found
returns-clause-found g c =
    finds_sum c.args.number.now (state g.S.Store c.args.tx.now.conn.now) (state g.S.Store c.query_all.new.self.conn.now) c.in_ok-rows.rows.items c.pop.new.self.items c.pop.result c.requires.steady
    (rw c.params-to_sql.ensures at c.in_ok-rows.ensures.ok) c.query_all.ensures.survives c.pop.ensures.items (λ some. c.pop.ensures.variant.1 (omega (arith, c.in_ok-rows.rows.ok)))

pub returns-in_err-rows-clause-disk : goal.returns-in_err-rows-clause-disk
returns-in_err-rows-clause-disk g c =
    failed_query_blames _ _ (state g.S.Store c.args.tx.now.conn.now) (state g.S.Store c.query_all.new.self.conn.now) _ c.from_residual.result c.from_residual.ensures.1 c.in_err-rows.ensures.err

pub returns-in_err-rows-clause-errors : goal.returns-in_err-rows-clause-errors
returns-in_err-rows-clause-errors g c =
    failed_unread _ _ (find_unread c.args.number.now) (state g.S.Store c.args.tx.now.conn.now) (state g.S.Store c.query_all.new.self.conn.now) _ c.from_residual.result c.from_residual.ensures.1 c.requires.steady (rw c.params-to_sql.ensures at c.in_err-rows.ensures.err) c.query_all.ensures.survives
