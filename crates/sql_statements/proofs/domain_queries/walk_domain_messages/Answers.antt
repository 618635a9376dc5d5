use Rattle.std.proofs.Common.{[], ◌∷◌, arith}
use Rattle.sqlite.specs.Held.{state}
use Rattle.sqlite.specs.State.{HasCleanDisk}
use Rattle.sqlite.specs.declared.types.Value.TheVariants.{Text}
use Rattle.sql_schema.specs.Layouts.{rows_named}
use Rattle.sql_schema.specs.SeenRows.{seen_in}
use Rattle.sql_streams.proofs.Answers.{hands_out}
use Rattle.sql_statements.specs.Queries.{ShowsMessagesIn}
use Rattle.sql_statements.proofs.DomainMessages.{messages_text, messages_plain, messages_all, messages_begun, messages_unread}
use Rattle.sql_statements.proofs.ReadsUnread.{walk_unread}
use Rattle.sql_statements.proofs.domain_queries.walk_domain_messages.Goals as goal

pub walk-requires : goal.walk-requires
walk-requires g c = record { plain = λ clean. messages_plain (state g.S.Store c.args.connection.now) (c.requires.idle.ready clean (c.requires.is_open clean)) }

pub returns-clause-handed : goal.returns-clause-handed
returns-clause-handed g c unit_of are clean =
    let old = state g.S.Store c.args.connection.now in
    let early : HasCleanDisk old = omega (arith, clean, c.walk.ensures.survives.clean) in
    let ready = c.requires.idle.ready early (c.requires.is_open early) in
    hands_out g.K.RowSink.Took g.K.RowSink.Refuses messages_text (Text c.args.domain.now ∷ Text c.args.lang.now ∷ []) old (ShowsMessagesIn unit_of (seen_in c.args.domain.now (rows_named old.now)))
    (messages_all c.args.domain.now c.args.lang.now old ready unit_of are) (messages_begun c.args.domain.now c.args.lang.now old ready unit_of are) c.args.sink.now c.walk.new.sink c.walk.result
    (rw (c.params-to_sql.ensures, c.params-to_sql-2.ensures) at (c.walk.ensures.all clean)) (rw (c.params-to_sql.ensures, c.params-to_sql-2.ensures) at (c.walk.ensures.cut clean))

pub returns-clause-errors : goal.returns-clause-errors
returns-clause-errors g c = walk_unread _ _ (messages_unread c.args.domain.now c.args.lang.now) (state g.S.Store c.args.connection.now) _ c.walk.result c.requires.idle (rw (c.params-to_sql.ensures, c.params-to_sql-2.ensures) at c.walk.ensures.errors) c.walk.ensures.survives
