use Rattle.std.proofs.Common.{[], None, arith}
use Rattle.sqlite.specs.Held.{state}
use Rattle.sqlite.specs.State.{HasCleanDisk}
use Rattle.sql_streams.proofs.Answers.{hands_out}
use Rattle.sql_statements.specs.RecordsInOrder.{ShowsBehind}
use Rattle.sql_statements.proofs.RecordsInOrder.{all_text, all_plain, all_whole, all_begun, all_unread}
use Rattle.sql_statements.proofs.ReadsUnread.{walk_unread}
use Rattle.sql_statements.proofs.record_queries.walk_records.Goals as goal

pub walk-requires : goal.walk-requires
walk-requires g c = record { plain = λ clean. all_plain (state g.S.Store c.args.connection.now) (c.requires.idle.1.ready clean (c.requires.is_open clean)) }

pub returns-clause-handed : goal.returns-clause-handed
returns-clause-handed g c clean =
    let old = state g.S.Store c.args.connection.now in
    let early : HasCleanDisk old = omega (arith, clean, c.walk.ensures.survives.clean) in
    let ready = c.requires.idle.1.ready early (c.requires.is_open early) in
    hands_out g.K.RowSink.Took g.K.RowSink.Refuses all_text [] old (ShowsBehind None old.now)
    (all_whole old ready) (all_begun old ready) c.args.sink.now c.walk.new.sink c.walk.result (c.walk.ensures.all clean) (c.walk.ensures.cut clean)

pub returns-clause-errors : goal.returns-clause-errors
returns-clause-errors g c = walk_unread _ _ all_unread (state g.S.Store c.args.connection.now) _ c.walk.result c.requires.idle.1 c.walk.ensures.errors c.walk.ensures.survives
