use Rattle.std.proofs.Common.{[], ◌∷◌, Some, w64, arith}
use Rattle.std.proofs.lemmas.Int.{to_z-of_z}
use Rattle.sqlite.specs.Held.{state}
use Rattle.sqlite.specs.State.{HasCleanDisk}
use Rattle.sqlite.specs.declared.types.Value.TheVariants.{Int}
use Rattle.sql_streams.proofs.Answers.{hands_out}
use Rattle.sql_statements.specs.RecordsInOrder.{ShowsBehind}
use Rattle.sql_statements.proofs.RecordsInOrder.{behind_text, behind_plain, behind_whole, behind_begun, behind_unread}
use Rattle.sql_statements.proofs.ReadsUnread.{walk_unread}
use Rattle.sql_statements.proofs.record_queries.walk_records_behind.Goals as goal

pub walk-requires : goal.walk-requires
walk-requires g c = record { plain = λ clean. behind_plain (state g.S.Store c.args.connection.now) (c.requires.idle.1.ready clean (c.requires.is_open clean)) }

pub returns-clause-handed : goal.returns-clause-handed
returns-clause-handed g c clean =
    let old = state g.S.Store c.args.connection.now in
    let early : HasCleanDisk old = omega (arith, clean, c.walk.ensures.survives.clean) in
    let ready = c.requires.idle.1.ready early (c.requires.is_open early) in
    hands_out g.K.RowSink.Took g.K.RowSink.Refuses behind_text (Int c.args.place ∷ []) old (ShowsBehind (Some c.args.place) old.now)
    (behind_whole old ready c.args.place) (behind_begun old ready c.args.place) c.args.sink.now c.walk.new.sink c.walk.result
    (rw (c.params-to_sql.ensures, to_z-of_z w64 c.args.place c.ranges.place) at (c.walk.ensures.all clean)) (rw (c.params-to_sql.ensures, to_z-of_z w64 c.args.place c.ranges.place) at (c.walk.ensures.cut clean))

pub returns-clause-errors : goal.returns-clause-errors
returns-clause-errors g c = walk_unread _ _ (behind_unread c.args.place) (state g.S.Store c.args.connection.now) _ c.walk.result c.requires.idle.1 (rw (c.params-to_sql.ensures, to_z-of_z w64 c.args.place c.ranges.place) at c.walk.ensures.errors) c.walk.ensures.survives
