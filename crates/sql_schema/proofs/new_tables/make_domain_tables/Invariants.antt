use Rattle.std.proofs.Common.{◌≡◌, Bool}
use Rattle.sqlite.specs.Held.{state}
use Rattle.sql_schema.specs.Layouts.{for_main}
use Rattle.sql_schema.specs.Inside.{IsSteadyOver}
use Rattle.sql_schema.proofs.TablesSoFar.{AreTexts}
use Rattle.sql_schema.proofs.MoreTables.{domain_texts, MadeSoFar}
use Rattle.sql_schema.proofs.new_tables.make_domain_tables.Given as goal

-- the tables of the texts so far are made, whichever tables were there
abbrev pub invariant-loop-text : goal.invariant-loop-text
invariant-loop-text g l =
    (l.tx.conn.ghost_name ≡ l.fn.tx.conn.ghost_name)
    × ((figures : Bool) → IsSteadyOver (for_main figures) (state g.S.Store l.fn.tx.conn.now) → MadeSoFar figures g.S.Store l.fn.tx.conn.now l.tx.conn.now l.text-index)
    × AreTexts domain_texts l.text-items
