use Rattle.std.proofs.Common.{◌≡◌, List}
use Rattle.sqlite.specs.Held.{state}
use Rattle.sqlite.specs.Table.{Table}
use Rattle.sql_schema.specs.Layouts.{Form}
use Rattle.sql_layouts.specs.Looks.{IsOver, HasSchema}
use Rattle.sql_layouts.specs.RowidQueries.{AskAll}
use Rattle.sql_layouts.proofs.RowidQueries.{HasLooked}
use Rattle.sql_layouts.proofs.rowids.are_apart.Given as goal

-- the tables so far have their rowids apart
abbrev pub invariant-loop-query : goal.invariant-loop-query
invariant-loop-query g l =
    (l.tx.conn.ghost_name ≡ l.fn.tx.conn.ghost_name)
    × ((form : Form) (tables : List Table) → IsOver (HasSchema form) (state g.S.Store l.fn.tx.conn.now) → AskAll form l.queries tables
    → HasLooked form tables (state g.S.Store l.fn.tx.conn.now) (state g.S.Store l.tx.conn.now) l.query-index)
