use Rattle.std.proofs.Common.{[], ◌∷◌, arith}
use Rattle.sqlite.specs.Held.{state}
use Rattle.sqlite.specs.State.{HasCleanDisk}
use Rattle.sqlite.specs.declared.types.Value.TheVariants.{Text}
use Rattle.sql_schema.specs.Layouts.{rows_named}
use Rattle.sql_schema.specs.SeenRows.{seen_in}
use Rattle.sql_streams.proofs.Answers.{hands_out}
use Rattle.sql_statements.specs.Queries.{ShowsObsoleteIn}
use Rattle.sql_statements.proofs.DomainObsolete.{obsolete_text, obsolete_plain, obsolete_all, obsolete_begun, obsolete_unread}
use Rattle.sql_statements.proofs.ReadsUnread.{walk_unread}
use Rattle.sql_statements.proofs.domain_queries.walk_domain_obsolete.Goals as goal

pub walk-requires : goal.walk-requires
walk-requires g c = record { plain = λ clean. obsolete_plain (state g.S.Store c.args.connection.now) (c.requires.idle.ready clean (c.requires.is_open clean)) }

pub returns-clause-handed : goal.returns-clause-handed
returns-clause-handed g c clean =
    let old = state g.S.Store c.args.connection.now in
    let early : HasCleanDisk old = omega (arith, clean, c.walk.ensures.survives.clean) in
    let ready = c.requires.idle.ready early (c.requires.is_open early) in
    hands_out g.K.RowSink.Took g.K.RowSink.Refuses obsolete_text (Text c.args.domain.now ∷ Text c.args.lang.now ∷ []) old (ShowsObsoleteIn c.args.lang.now (seen_in c.args.domain.now (rows_named old.now)))
    (obsolete_all c.args.domain.now c.args.lang.now old ready) (obsolete_begun c.args.domain.now c.args.lang.now old ready) c.args.sink.now c.walk.new.sink c.walk.result
    (rw (c.params-to_sql.ensures, c.params-to_sql-2.ensures) at (c.walk.ensures.all clean)) (rw (c.params-to_sql.ensures, c.params-to_sql-2.ensures) at (c.walk.ensures.cut clean))

pub returns-clause-errors : goal.returns-clause-errors
returns-clause-errors g c = walk_unread _ _ (obsolete_unread c.args.domain.now c.args.lang.now) (state g.S.Store c.args.connection.now) _ c.walk.result c.requires.idle (rw (c.params-to_sql.ensures, c.params-to_sql-2.ensures) at c.walk.ensures.errors) c.walk.ensures.survives
