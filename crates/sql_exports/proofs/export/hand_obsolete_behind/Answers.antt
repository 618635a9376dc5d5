use Rattle.std.proofs.Common.{[], ◌∷◌, subst, arith}
use Rattle.std.proofs.lemmas.List.{append-nil}
use Rattle.sqlite.specs.Held.{state}
use Rattle.sqlite.specs.State.{HasCleanDisk}
use Rattle.sql_meaning.specs.Meaning.{project_of_rows}
use Rattle.sql_exports.specs.Entries.{obsolete_of}
use Rattle.sql_exports.specs.Handing.{Gives}
use Rattle.sql_exports.proofs.CutsBlame.{never_cuts}
use Rattle.sql_exports.proofs.Pieces.{given_behind}
use Rattle.sql_exports.proofs.UnitColumns.{unit_columns}
use Rattle.sql_exports.proofs.Whole.{obsolete_read}
use Rattle.sql_meaning.proofs.DomainOfficeRows.{domain_rows}
use Rattle.sql_exports.proofs.export.hand_obsolete_behind.Goals as goal
use Rattle.sql_schema.specs.Layouts.{rows_named}
use Rattle.sql_schema.specs.SeenRows.{seen_in}

pub returns-in-Ok-clause-handed : goal.returns-in-Ok-clause-handed
returns-in-Ok-clause-handed g c clean =
    let old = state g.S.Store c.args.connection.now in
    let lang = c.args.lang.now in
    let early : HasCleanDisk old = omega (arith, clean, c.hand_obsolete.ensures.looked.survives.clean) in
    let ready = c.requires.idle.ready early (c.requires.is_open early) in
    let tables = seen_in c.args.domain.now (rows_named old.now) in
    let read = obsolete_read tables (domain_rows old.now ready c.args.domain.now) (unit_columns old.now ready c.args.domain.now) c.args.lang.now in
    let obsolete = obsolete_of (project_of_rows tables) lang in
    let one = c.in-Ok.ensures.handed obsolete read clean in
    subst (λ es. Gives g.K.EntrySink.Took g.K.EntrySink.Refuses c.args.sink.now c.hand.new.sink es c.hand.result) (append-nil (c.args.held ∷ obsolete))
    (given_behind g.K.EntrySink.Took g.K.EntrySink.Refuses g.met.K.EntrySink.more c.args.sink.now c.hand_obsolete.new.sink c.hand.new.sink (c.args.held ∷ obsolete) [] c.hand_obsolete.new.held one c.hand.result c.hand.ensures.handed)

pub returns-in-Err-clause-handed : goal.returns-in-Err-clause-handed
returns-in-Err-clause-handed g c clean =
    let old = state g.S.Store c.args.connection.now in
    let early : HasCleanDisk old = omega (arith, clean, c.hand_obsolete.ensures.looked.survives.clean) in
    let ready = c.requires.idle.ready early (c.requires.is_open early) in
    let tables = seen_in c.args.domain.now (rows_named old.now) in
    let read = obsolete_read tables (domain_rows old.now ready c.args.domain.now) (unit_columns old.now ready c.args.domain.now) c.args.lang.now in
    c.in-Err.ensures.handed (obsolete_of (project_of_rows tables) c.args.lang.now) read clean

pub returns-in-Ok-clause-disk : goal.returns-in-Ok-clause-disk
returns-in-Ok-clause-disk g c = never_cuts (state g.S.Store c.args.connection.now) (state g.S.Store c.hand_obsolete.new.connection) c.hand.result c.hand.ensures.told
