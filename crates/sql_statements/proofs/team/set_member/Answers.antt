use Rattle.std.proofs.Common.{w64}
use Rattle.std.proofs.lemmas.Int.{to_z-of_z}
use Rattle.sqlite.specs.Held.{state}
use Rattle.sql_laws.proofs.DiskErrors.{execute_blames}
use Rattle.sql_schema.proofs.Steps.{said}
use Rattle.sql_statements.proofs.MembersSet.{sets_member}
use Rattle.sql_statements.proofs.team.set_member.Goals as goal

pub returns-clause-put : goal.returns-clause-put
returns-clause-put g c form steady =
    said _ _ _ c.and.ensures (
    sets_member c.args.name.now c.args.role (state g.S.Store c.args.tx.now.conn.now) (state g.S.Store c.execute.new.self.conn.now) c.execute.result steady
    (rw (c.params-to_sql.ensures, c.params-to_sql-2.ensures, to_z-of_z w64 c.args.role c.ranges.role) at c.execute.ensures.runs) c.execute.ensures.survives
    )

pub returns-clause-disk : goal.returns-clause-disk
returns-clause-disk g c =
    execute_blames _ _ (state g.S.Store c.args.tx.now.conn.now) (state g.S.Store c.execute.new.self.conn.now) c.execute.result c.and.result c.execute.ensures.ended c.execute.ensures.runs tt c.and.ensures
