use Rattle.std.proofs.Common.{◌≡◌}
use Rattle.sql_schema.specs.Layouts.{made_last}
use Rattle.sql_schema.proofs.TablesByDomain.{texts_by_domain}
use Rattle.sql_schema.proofs.TablesSoFar.{MadeSoFar, AreTexts}
use Rattle.sql_schema.proofs.new_tables.make_tables_by_domain.Given as goal

-- the tables of the texts so far are made
abbrev pub invariant-loop-text : goal.invariant-loop-text
invariant-loop-text g l =
    (l.tx.conn.ghost_name ≡ l.fn.tx.conn.ghost_name)
    × MadeSoFar made_last g.S.Store l.fn.tx.conn.now l.tx.conn.now l.text-index
    × AreTexts texts_by_domain l.text-items
