use Rattle.std.proofs.Common.{◌≡◌, ◌∷◌, ◌++◌, Some, sym, ap, subst, ◌∙◌, arith}
use Rattle.std.specs.FinMap as maps
use Rattle.sqlite.specs.Effect.{Database}
use Rattle.sqlite.specs.Held.{state}
use Rattle.sqlite.specs.State.{HasCleanDisk}
use Rattle.sql_exports.specs.Handing.{Gives}
use Rattle.sql_meaning.specs.Meaning.{project_of_rows, headers_in}
use Rattle.sql_exports.specs.Entries.{messages_of, obsolete_of}
use Rattle.sql_exports.proofs.CutsBlame.{failure_cuts, cuts_behind}
use Rattle.sql_exports.proofs.Pieces.{same_now}
use Rattle.sql_exports.proofs.RowsInTurn.{entries_are}
use Rattle.sql_exports.proofs.export.export_entries.Goals as goal
use Rattle.sql_schema.specs.Layouts.{rows_named}
use Rattle.sql_schema.specs.SeenRows.{seen_in}
use Rattle.units.specs.Projects.{IsProject}

pub returns-in-Ok-Some-clause-handed : goal.returns-in-Ok-Some-clause-handed
returns-in-Ok-Some-clause-handed g c clean =
    let old = state g.S.Store c.args.connection.now in
    let mid = state g.S.Store c.look_up_header.new.connection in
    let took = g.K.EntrySink.Took in
    let refuses = g.K.EntrySink.Refuses in
    let domain = c.args.domain.now in
    let lang = c.args.lang.now in
    let header = c.in-Ok-Some.header in
    let late : HasCleanDisk mid = omega (arith, clean, c.hand_rows.ensures.looked.survives.clean) in
    let found = c.in-Ok-Some.ensures.found in
    let same : mid.now ≡ old.now = same_now old mid _ (λ db h. h ≡ maps.get (headers_in (seen_in domain (rows_named db))) c.as_str.result.now) c.requires.idle found late in
    let is : Some header ≡ maps.get (headers_in (seen_in domain (rows_named old.now))) lang = sym c.in-Ok-Some.field-0-is ∙ found.answer late ∙ ap (maps.get (headers_in (seen_in domain (rows_named old.now)))) c.as_str.ensures.value in
    let here = c.hand_rows.ensures.handed clean in
    subst (λ es. Gives took refuses c.args.sink.now c.hand_rows.new.sink es c.hand_rows.result) (sym (entries_are (project_of_rows (seen_in domain (rows_named old.now))) lang header is))
    (subst (λ t. Gives took refuses c.args.sink.now c.hand_rows.new.sink (header ∷ messages_of (project_of_rows (seen_in domain (rows_named old.now))) t ++ obsolete_of (project_of_rows (seen_in domain (rows_named old.now))) t) c.hand_rows.result) c.as_str-in-Ok-Some.ensures.value
    (subst (λ (d : Database). Gives took refuses c.args.sink.now c.hand_rows.new.sink
    (header ∷ messages_of (project_of_rows (seen_in domain (rows_named d))) c.as_str-in-Ok-Some.result.now ++ obsolete_of (project_of_rows (seen_in domain (rows_named d))) c.as_str-in-Ok-Some.result.now) c.hand_rows.result) same here))

pub hand_rows-requires-clause-rules : goal.hand_rows-requires-clause-rules
hand_rows-requires-clause-rules g c late =
    let domain = c.args.domain.now in
    let old = state g.S.Store c.args.connection.now in
    let found = c.in-Ok-Some.ensures.found in
    let stays = found.same late (found.is_open late) in
    let early : HasCleanDisk old = omega (arith, late, found.survives.clean) in
    subst (λ (d : Database). IsProject (project_of_rows (seen_in domain (rows_named d)))) (sym stays.now) (c.requires.rules early stays.was_open)

pub returns-in-Ok-Some-clause-disk : goal.returns-in-Ok-Some-clause-disk
returns-in-Ok-Some-clause-disk g c =
    cuts_behind (state g.S.Store c.args.connection.now) (state g.S.Store c.look_up_header.new.connection) (state g.S.Store c.hand_rows.new.connection) _ _ c.hand_rows.result
    c.in-Ok-Some.ensures.found.survives c.hand_rows.ensures.looked.survives c.hand_rows.ensures.disk

pub returns-in-Err-clause-disk : goal.returns-in-Err-clause-disk
returns-in-Err-clause-disk g c = failure_cuts (state g.S.Store c.args.connection.now) (state g.S.Store c.look_up_header.new.connection) c.in-Err.failure.lost c.in-Err.ensures.disk
