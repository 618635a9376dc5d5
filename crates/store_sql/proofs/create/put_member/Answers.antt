use Rattle.sqlite.specs.Held.{state}
use Rattle.sql_meaning.specs.Beginnings.{PutsMember}
use Rattle.sql_commits.proofs.WritesInTurn.{write_mapped}
use Rattle.sql_decoding.proofs.DiskFailures.{mapped_told}
use Rattle.store_sql.proofs.create.put_member.Goals as goal

pub returns-clause-put : goal.returns-clause-put
returns-clause-put g c = λ column is.
    write_mapped (state g.S.Store c.args.tx.now.conn.now) (state g.S.Store c.write_role.new.tx.conn.now) c.write_role.result c.map_err.result _ _ (PutsMember c.args.name.now column) c.map_err.ensures.cases
    (λ put. put) (c.write_role.ensures.member column is)

pub returns-clause-disk : goal.returns-clause-disk
returns-clause-disk g c = mapped_told (state g.S.Store c.args.tx.now.conn.now) (state g.S.Store c.write_role.new.tx.conn.now) c.write_role.result c.map_err.result _ (λ e f t. t) c.map_err.ensures.cases c.write_role.ensures.disk
