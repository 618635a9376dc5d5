use Rattle.std.proofs.Common.{◌≡◌}
use Rattle.sqlite.specs.Values.{bound}
use Rattle.sql_streams.proofs.Steps.{HasWalked}
use Rattle.sql_streams.proofs.walking.walk.Given as goal

abbrev pub invariant-rows : goal.invariant-rows
invariant-rows g l =
    (l.rows.conn.ghost_name ≡ l.initial.rows.conn.ghost_name)
    × HasWalked g.S.Store g.K.RowSink.Took l.sql (bound l.params) l.fn.connection l.rows.conn.now l.initial.sink l.sink
