use Rattle.std.proofs.Common.{[], arith}
use Rattle.sqlite.specs.Held.{state}
use Rattle.sqlite.specs.State.{HasCleanDisk}
use Rattle.sql_streams.proofs.Answers.{hands_out}
use Rattle.sql_statements.specs.Owners.{owned_name, owned_place, owners_text, ShowsOwners}
use Rattle.sql_statements.proofs.OwnersRead.{owners_plain, owners_shown, owners_begun, owners_unread}
use Rattle.sql_statements.proofs.ReadsUnread.{walk_unread}
use Rattle.sql_statements.proofs.owners.walk_owners.Goals as goal

pub walk-requires : goal.walk-requires
walk-requires g c = record {
  plain = λ clean.
      rw c.owners_text.ensures (owners_plain (state g.S.Store c.args.connection.now) (c.requires.idle.ready clean (c.requires.is_open clean)) c.args.table);
}

pub returns-clause-handed : goal.returns-clause-handed
returns-clause-handed g c clean =
    let old = state g.S.Store c.args.connection.now in
    let early : HasCleanDisk old = omega (arith, clean, c.walk.ensures.survives.clean) in
    let ready = c.requires.idle.ready early (c.requires.is_open early) in
    hands_out g.K.RowSink.Took g.K.RowSink.Refuses (owners_text c.args.table) [] old (ShowsOwners (owned_name c.args.table) (owned_place c.args.table) old.now)
    (owners_shown old ready c.args.table) (owners_begun old ready c.args.table) c.args.sink.now c.walk.new.sink c.walk.result
    (rw c.owners_text.ensures at (c.walk.ensures.all clean)) (rw c.owners_text.ensures at (c.walk.ensures.cut clean))

pub returns-clause-errors : goal.returns-clause-errors
returns-clause-errors g c = walk_unread _ _ (owners_unread c.args.table) (state g.S.Store c.args.connection.now) _ c.walk.result c.requires.idle (rw c.owners_text.ensures at c.walk.ensures.errors) c.walk.ensures.survives
