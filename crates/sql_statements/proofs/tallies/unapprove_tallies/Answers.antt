use Rattle.sqlite.specs.Held.{state}
use Rattle.sql_laws.proofs.DiskErrors.{execute_blames}
use Rattle.sql_schema.proofs.Steps.{said}
use Rattle.sql_statements.proofs.DomainUnapproved.{unapproves_tallies}
use Rattle.sql_statements.proofs.tallies.unapprove_tallies.Goals as goal

pub returns-clause-unapproved : goal.returns-clause-unapproved
returns-clause-unapproved g c =
    said _ _ _ c.and.ensures (
    unapproves_tallies (state g.S.Store c.args.tx.now.conn.now) (state g.S.Store c.execute.new.self.conn.now) c.execute.result c.requires.steady c.execute.ensures.runs c.execute.ensures.survives
    )

pub returns-clause-disk : goal.returns-clause-disk
returns-clause-disk g c =
    execute_blames _ _ (state g.S.Store c.args.tx.now.conn.now) (state g.S.Store c.execute.new.self.conn.now) c.execute.result c.and.result c.execute.ensures.ended c.execute.ensures.runs tt c.and.ensures
