use Rattle.std.proofs.Common.{[], arith}
use Rattle.sqlite.specs.Held.{state}
use Rattle.sqlite.specs.State.{HasCleanDisk}
use Rattle.sql_streams.proofs.Answers.{hands_out}
use Rattle.sql_statements.specs.WalkedRows.{ShowsUnsummed}
use Rattle.sql_statements.proofs.UnsummedWalked.{unsummed_text, unsummed_plain, unsummed_shown, unsummed_begun, unsummed_unread}
use Rattle.sql_statements.proofs.ReadsUnread.{walk_unread}
use Rattle.sql_statements.proofs.vote_sums.walk_unsummed.Goals as goal

pub walk-requires : goal.walk-requires
walk-requires g c = record { plain = λ clean. unsummed_plain (state g.S.Store c.args.connection.now) (c.requires.idle.ready clean (c.requires.is_open clean)) }

pub returns-clause-handed : goal.returns-clause-handed
returns-clause-handed g c clean =
    let old = state g.S.Store c.args.connection.now in
    let early : HasCleanDisk old = omega (arith, clean, c.walk.ensures.survives.clean) in
    let ready = c.requires.idle.ready early (c.requires.is_open early) in
    hands_out g.K.RowSink.Took g.K.RowSink.Refuses unsummed_text [] old (ShowsUnsummed old.now) (unsummed_shown old ready) (unsummed_begun old ready) c.args.sink.now c.walk.new.sink c.walk.result
    (c.walk.ensures.all clean) (c.walk.ensures.cut clean)

pub returns-clause-errors : goal.returns-clause-errors
returns-clause-errors g c = walk_unread _ _ unsummed_unread (state g.S.Store c.args.connection.now) _ c.walk.result c.requires.idle c.walk.ensures.errors c.walk.ensures.survives
