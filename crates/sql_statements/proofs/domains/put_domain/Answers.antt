use Rattle.sqlite.specs.Held.{state}
use Rattle.sql_laws.proofs.DiskErrors.{execute_blames}
use Rattle.sql_schema.proofs.Steps.{said}
use Rattle.sql_statements.proofs.DomainNames.{puts_domain}
use Rattle.sql_statements.proofs.domains.put_domain.Goals as goal

pub returns-clause-put : goal.returns-clause-put
returns-clause-put g c =
    said _ _ _ c.and.ensures (
    puts_domain c.args.name.now (state g.S.Store c.args.tx.now.conn.now) (state g.S.Store c.execute.new.self.conn.now) c.execute.result c.requires.steady
    (rw c.params-to_sql.ensures at c.execute.ensures.runs) c.execute.ensures.survives
    )

pub returns-clause-disk : goal.returns-clause-disk
returns-clause-disk g c =
    execute_blames _ _ (state g.S.Store c.args.tx.now.conn.now) (state g.S.Store c.execute.new.self.conn.now) c.execute.result c.and.result c.execute.ensures.ended c.execute.ensures.runs tt c.and.ensures
