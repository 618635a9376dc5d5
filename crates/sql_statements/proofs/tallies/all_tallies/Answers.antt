use Rattle.std.proofs.Common.{Vec, Global}
use Rattle.sqlite.specs.Order.{Row}
use Rattle.sqlite.specs.Held.{state}
use Rattle.sql_laws.proofs.DiskErrors.{query_blames}
use Rattle.sql_statements.proofs.TallyRows.{reads_tallies, domain_unread}
use Rattle.sql_statements.proofs.ReadsUnread.{read_unread}
use Rattle.sql_statements.proofs.tallies.all_tallies.Goals as goal

pub returns-clause-found : goal.returns-clause-found
returns-clause-found g c =
    reads_tallies c.args.domain.now (Vec Row Global) (λ rows. rows.items) (state g.S.Store c.args.tx.now.conn.now) (state g.S.Store c.query_all.new.self.conn.now) c.query_all.result c.requires.steady
    (rw c.params-to_sql.ensures at c.query_all.ensures.ok) (rw c.params-to_sql.ensures at c.query_all.ensures.err) c.query_all.ensures.survives

pub returns-clause-disk : goal.returns-clause-disk
returns-clause-disk g c = query_blames _ _ (state g.S.Store c.args.tx.now.conn.now) (state g.S.Store c.query_all.new.self.conn.now) c.query_all.result c.query_all.ensures.err

pub returns-clause-errors : goal.returns-clause-errors
returns-clause-errors g c =
    read_unread _ _ (domain_unread c.args.domain.now) (state g.S.Store c.args.tx.now.conn.now) (state g.S.Store c.query_all.new.self.conn.now) c.query_all.result c.requires.steady (rw c.params-to_sql.ensures at c.query_all.ensures.err) c.query_all.ensures.survives
