use Rattle.std.proofs.Common.{rules, w64}
use Rattle.std.proofs.lemmas.Int.{to_z-of_z}
use Rattle.sqlite.specs.Held.{state}
use Rattle.sql_laws.proofs.DiskErrors.{execute_blames}
use Rattle.sql_schema.proofs.Steps.{said}
use Rattle.sql_statements.proofs.PolicySet.{sets_policy}
use Rattle.sql_statements.proofs.policy.set_policy.Goals as goal

pub returns-clause-put : goal.returns-clause-put
returns-clause-put g c form steady =
    said _ _ _ c.and.ensures (
    sets_policy c.args.policy.schema c.args.policy.reviews c.args.policy.guests_suggest c.args.policy.voting c.args.policy.accept_at c.args.policy.placeholders c.args.policy.line_ends (state g.S.Store c.args.tx.now.conn.now) (state g.S.Store c.execute.new.self.conn.now) c.execute.result steady
    (rw (c.params-to_sql.ensures, c.params-to_sql-2.ensures, c.params-to_sql-3.ensures, c.params-to_sql-4.ensures, c.params-to_sql-5.ensures, c.params-to_sql-6.ensures, c.params-to_sql-7.ensures, to_z-of_z w64 c.args.policy.schema (search rules), to_z-of_z w64 c.args.policy.reviews (search rules), to_z-of_z w64 c.args.policy.guests_suggest (search rules), to_z-of_z w64 c.args.policy.voting (search rules), to_z-of_z w64 c.args.policy.accept_at (search rules), to_z-of_z w64 c.args.policy.placeholders (search rules), to_z-of_z w64 c.args.policy.line_ends (search rules)) at c.execute.ensures.runs) c.execute.ensures.survives
    )

pub returns-clause-disk : goal.returns-clause-disk
returns-clause-disk g c =
    execute_blames _ _ (state g.S.Store c.args.tx.now.conn.now) (state g.S.Store c.execute.new.self.conn.now) c.execute.result c.and.result c.execute.ensures.ended c.execute.ensures.runs tt c.and.ensures
