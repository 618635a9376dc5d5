use Rattle.std.proofs.Common.{[], arith}
use Rattle.sqlite.specs.Held.{state}
use Rattle.sqlite.specs.State.{HasCleanDisk}
use Rattle.sql_streams.proofs.Answers.{hands_out}
use Rattle.sql_statements.specs.RecordTable.{ShowsRecords}
use Rattle.sql_statements.proofs.RecordTexts.{records_text, records_plain, records_shown, records_begun, records_unread}
use Rattle.sql_statements.proofs.ReadsUnread.{walk_unread}
use Rattle.sql_statements.proofs.record_queries.walk_contents.Goals as goal

pub walk-requires : goal.walk-requires
walk-requires g c = record { plain = λ clean. records_plain (state g.S.Store c.args.connection.now) (c.requires.idle.1.ready clean (c.requires.is_open clean)) }

pub returns-clause-handed : goal.returns-clause-handed
returns-clause-handed g c clean =
    let old = state g.S.Store c.args.connection.now in
    let early : HasCleanDisk old = omega (arith, clean, c.walk.ensures.survives.clean) in
    let ready = c.requires.idle.1.ready early (c.requires.is_open early) in
    hands_out g.K.RowSink.Took g.K.RowSink.Refuses records_text [] old (ShowsRecords old.now)
    (records_shown old ready) (records_begun old ready) c.args.sink.now c.walk.new.sink c.walk.result (c.walk.ensures.all clean) (c.walk.ensures.cut clean)

pub returns-clause-errors : goal.returns-clause-errors
returns-clause-errors g c = walk_unread _ _ records_unread (state g.S.Store c.args.connection.now) _ c.walk.result c.requires.idle.1 c.walk.ensures.errors c.walk.ensures.survives
