use Rattle.std.proofs.Common.{rules, w64}
use Rattle.std.proofs.lemmas.Int.{to_z-of_z}
use Rattle.std.specs.Option.{option_copied}
use Rattle.sqlite.specs.Held.{state}
use Rattle.sql_laws.proofs.DiskErrors.{execute_blames}
use Rattle.sql_schema.proofs.Steps.{said}
use Rattle.sql_schema.proofs.Insertions.{bound_text_or_null}
use Rattle.sql_statements.proofs.DomainTemplate.{puts_entry}
use Rattle.sql_statements.proofs.domain_template.put_domain_entry.Goals as goal

pub returns-clause-put : goal.returns-clause-put
returns-clause-put g c =
    said _ _ _ c.and.ensures (
    puts_entry c.args.row.domain.now c.args.row.place c.args.row.key.now (option_copied c.args.row.plural) c.args.row.extracted.now c.args.row.refs.now c.args.row.flags.now (state g.S.Store c.args.tx.now.conn.now) (state g.S.Store c.execute.new.self.conn.now) c.execute.result c.requires.steady
    (rw (c.params-to_sql.ensures, c.params-to_sql-2.ensures, c.params-to_sql-3.ensures, c.params-to_sql-4.ensures, c.params-to_sql-5.ensures, c.params-to_sql-6.ensures, c.params-to_sql-7.ensures, bound_text_or_null c.args.row.plural, to_z-of_z w64 c.args.row.place (search rules)) at c.execute.ensures.runs) c.execute.ensures.survives
    )

pub returns-clause-disk : goal.returns-clause-disk
returns-clause-disk g c =
    execute_blames _ _ (state g.S.Store c.args.tx.now.conn.now) (state g.S.Store c.execute.new.self.conn.now) c.execute.result c.and.result c.execute.ensures.ended c.execute.ensures.runs tt c.and.ensures
