use Rattle.std.proofs.Common.{Vec, Global}
use Rattle.sqlite.specs.Order.{Row}
use Rattle.sqlite.specs.Held.{state}
use Rattle.sql_laws.proofs.DiskErrors.{query_blames}
use Rattle.sql_statements.proofs.TableTexts.{reads_units, units_unread}
use Rattle.sql_statements.proofs.ReadsUnread.{read_unread}
use Rattle.sql_statements.proofs.whole_office.all_units.Goals as goal

pub returns-clause-found : goal.returns-clause-found
returns-clause-found g c figures steady =
    reads_units (Vec Row Global) (λ rows. rows.items) (state g.S.Store c.args.tx.now.conn.now) (state g.S.Store c.query_all.new.self.conn.now) c.query_all.result steady
    c.query_all.ensures.ok c.query_all.ensures.err c.query_all.ensures.survives

pub returns-clause-disk : goal.returns-clause-disk
returns-clause-disk g c = query_blames _ _ (state g.S.Store c.args.tx.now.conn.now) (state g.S.Store c.query_all.new.self.conn.now) c.query_all.result c.query_all.ensures.err

pub returns-clause-errors : goal.returns-clause-errors
returns-clause-errors g c figures steady =
    read_unread _ _ units_unread (state g.S.Store c.args.tx.now.conn.now) (state g.S.Store c.query_all.new.self.conn.now) c.query_all.result steady c.query_all.ensures.err c.query_all.ensures.survives
