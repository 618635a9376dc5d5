use Rattle.std.proofs.Common.{◌≡◌, ◌∷◌, subst, arith}
use Rattle.std.specs.Prelude.{⊤}
use Rattle.sqlite.specs.Effect.{Database}
use Rattle.sqlite.specs.Held.{state}
use Rattle.sqlite.specs.State.{HasCleanDisk}
use Rattle.sql_meaning.specs.Meaning.{project_of_rows}
use Rattle.sql_meaning.proofs.DomainOfficeRows.{domain_rows}
use Rattle.sql_exports.specs.Entries.{messages_of, obsolete_of}
use Rattle.sql_exports.specs.Handing.{Gives}
use Rattle.sql_exports.proofs.CutsBlame.{cuts_behind}
use Rattle.sql_exports.proofs.Pieces.{cut_before, given_behind, same_now}
use Rattle.sql_exports.proofs.UnitsThere.{unit_at, units_there}
use Rattle.sql_exports.proofs.Whole.{messages_read}
use Rattle.sql_exports.proofs.export.hand_rows.Goals as goal
use Rattle.sql_schema.specs.Layouts.{rows_named}
use Rattle.sql_schema.specs.SeenRows.{seen_in}

pub returns-in-Ok-clause-handed : goal.returns-in-Ok-clause-handed
returns-in-Ok-clause-handed g c clean =
    let old = state g.S.Store c.args.connection.now in
    let mid = state g.S.Store c.hand_messages.new.connection in
    let took = g.K.EntrySink.Took in
    let refuses = g.K.EntrySink.Refuses in
    let lang = c.args.lang.now in
    let last = c.hand_messages.new.held in
    let late : HasCleanDisk mid = omega (arith, clean, c.hand_obsolete_behind.ensures.looked.survives.clean) in
    let early : HasCleanDisk old = omega (arith, late, c.hand_messages.ensures.looked.survives.clean) in
    let domain = c.args.domain.now in
    let tables = seen_in domain (rows_named old.now) in
    let office = domain_rows old.now (c.requires.idle.ready early (c.requires.is_open early)) domain in
    let rules = c.requires.rules early in
    let there = c.requires.there early in
    let same : mid.now ≡ old.now = same_now old mid _ (λ _ _. ⊤) c.requires.idle c.in-Ok.ensures.looked late in
    let messages = messages_of (project_of_rows tables) lang in
    let obsolete = obsolete_of (project_of_rows tables) lang in
    let one = c.in-Ok.ensures.handed (unit_at tables office rules lang there) messages (units_there tables office rules lang there) (messages_read tables office rules lang there) late in
    let two : Gives took refuses c.hand_messages.new.sink c.hand_obsolete_behind.new.sink (last ∷ obsolete) c.hand_obsolete_behind.result =
    subst (λ (d : Database). Gives took refuses c.hand_messages.new.sink c.hand_obsolete_behind.new.sink (last ∷ obsolete_of (project_of_rows (seen_in domain (rows_named d))) lang) c.hand_obsolete_behind.result) same
    (c.hand_obsolete_behind.ensures.handed clean) in
    given_behind took refuses g.met.K.EntrySink.more c.args.sink.now c.hand_messages.new.sink c.hand_obsolete_behind.new.sink (c.args.header ∷ messages) obsolete last one c.hand_obsolete_behind.result two

pub returns-in-Err-clause-handed : goal.returns-in-Err-clause-handed
returns-in-Err-clause-handed g c clean =
    let old = state g.S.Store c.args.connection.now in
    let lang = c.args.lang.now in
    let early : HasCleanDisk old = omega (arith, clean, c.hand_messages.ensures.looked.survives.clean) in
    let domain = c.args.domain.now in
    let tables = seen_in domain (rows_named old.now) in
    let office = domain_rows old.now (c.requires.idle.ready early (c.requires.is_open early)) domain in
    let rules = c.requires.rules early in
    let there = c.requires.there early in
    let messages = messages_of (project_of_rows tables) lang in
    let one = c.in-Err.ensures.handed (unit_at tables office rules lang there) messages (units_there tables office rules lang there) (messages_read tables office rules lang there) clean in
    cut_before g.K.EntrySink.Took g.K.EntrySink.Refuses c.args.sink.now c.hand_messages.new.sink (c.args.header ∷ messages) (obsolete_of (project_of_rows tables) lang) c.in-Err.fault one

pub returns-in-Ok-clause-disk : goal.returns-in-Ok-clause-disk
returns-in-Ok-clause-disk g c =
    cuts_behind (state g.S.Store c.args.connection.now) (state g.S.Store c.hand_messages.new.connection) (state g.S.Store c.hand_obsolete_behind.new.connection) _ _ c.hand_obsolete_behind.result
    c.in-Ok.ensures.looked.survives c.hand_obsolete_behind.ensures.looked.survives c.hand_obsolete_behind.ensures.disk
