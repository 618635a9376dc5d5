use Rattle.std.proofs.Common.{[], arith}
use Rattle.sqlite.specs.Held.{state}
use Rattle.sqlite.specs.State.{HasCleanDisk}
use Rattle.sql_streams.proofs.Answers.{hands_out}
use Rattle.sql_statements.specs.SummedVotes.{ShowsSummed}
use Rattle.sql_statements.proofs.SumsWalked.{sums_text, sums_plain, sums_shown, sums_begun, sums_unread}
use Rattle.sql_statements.proofs.ReadsUnread.{walk_unread}
use Rattle.sql_statements.proofs.vote_sums.walk_sums.Goals as goal

pub walk-requires : goal.walk-requires
walk-requires g c = record { plain = λ clean. sums_plain (state g.S.Store c.args.connection.now) (c.requires.idle.ready clean (c.requires.is_open clean)) }

pub returns-clause-handed : goal.returns-clause-handed
returns-clause-handed g c clean =
    let old = state g.S.Store c.args.connection.now in
    let early : HasCleanDisk old = omega (arith, clean, c.walk.ensures.survives.clean) in
    let ready = c.requires.idle.ready early (c.requires.is_open early) in
    hands_out g.K.RowSink.Took g.K.RowSink.Refuses sums_text [] old (ShowsSummed old.now)
    (sums_shown old ready) (sums_begun old ready) c.args.sink.now c.walk.new.sink c.walk.result (c.walk.ensures.all clean) (c.walk.ensures.cut clean)

pub returns-clause-errors : goal.returns-clause-errors
returns-clause-errors g c = walk_unread _ _ sums_unread (state g.S.Store c.args.connection.now) _ c.walk.result c.requires.idle c.walk.ensures.errors c.walk.ensures.survives
