use Rattle.std.proofs.Common.{◌≡◌, sym, subst, ◌∙◌, arith}
use Rattle.sqlite.specs.Effect.{Database}
use Rattle.sqlite.specs.Held.{state}
use Rattle.sqlite.specs.State.{HasCleanDisk}
use Rattle.po_text.specs.Texts.{Text}
use Rattle.units.specs.Office.{project_in}
use Rattle.units.specs.Project.{Project}
use Rattle.units.specs.Projects.{IsProject}
use Rattle.tables.specs.Entries.{entries_of}
use Rattle.sql_meaning.specs.Domains.{project_seen, office_of_rows}
use Rattle.sql_exports.specs.Handing.{Gives}
use Rattle.sql_exports.proofs.CutsBlame.{failure_cuts, cuts_behind}
use Rattle.sql_schema.specs.Layouts.{rows_named}
use Rattle.store_sql.proofs.InDomains.{project_as_seen, keeps_project}
use Rattle.store_sql.proofs.entries.hand_entries.Goals as goal

pub export_entries-requires-clause-rules : goal.export_entries-requires-clause-rules
export_entries-requires-clause-rules g c = λ clean is_open.
    let old = state g.S.Store c.args.connection.now in
    let looked = c.in-Ok.ensures.looked in
    let stays = looked.same clean is_open in
    let early : HasCleanDisk old = omega (arith, clean, looked.survives.clean) in
    subst (λ (w : Text × Database). IsProject (project_seen w.0 (rows_named w.1))) (λ i. (sym c.as_str.ensures.value i, sym stays.now i))
    (keeps_project old c.requires.keeps early stays.was_open c.args.domain.now)

pub returns-in-Ok-clause-handed : goal.returns-in-Ok-clause-handed
returns-in-Ok-clause-handed g c clean =
    let old = state g.S.Store c.args.connection.now in
    let mid = state g.S.Store c.look.new.connection in
    let looked = c.in-Ok.ensures.looked in
    let late : HasCleanDisk mid = omega (arith, clean, c.export_entries.ensures.looked.survives.clean) in
    let early : HasCleanDisk old = omega (arith, late, looked.survives.clean) in
    let stays = looked.same late (looked.is_open late) in
    let seen : project_seen c.as_str.result.now (rows_named mid.now) ≡ project_in (office_of_rows (rows_named old.now)) c.args.domain.now =
    (λ i. project_seen (c.as_str.ensures.value i) (rows_named (stays.now i))) ∙ sym (project_as_seen old c.requires.keeps early stays.was_open c.args.domain.now) in
    subst (λ (p : Project). Gives g.K.EntrySink.Took g.K.EntrySink.Refuses c.args.sink.now c.export_entries.new.sink (entries_of p c.args.lang.now) c.export_entries.result) seen (c.export_entries.ensures.handed clean)

pub returns-in-Ok-clause-disk : goal.returns-in-Ok-clause-disk
returns-in-Ok-clause-disk g c =
    cuts_behind (state g.S.Store c.args.connection.now) (state g.S.Store c.look.new.connection) (state g.S.Store c.export_entries.new.connection) _ _ c.export_entries.result
    c.in-Ok.ensures.looked.survives c.export_entries.ensures.looked.survives c.export_entries.ensures.disk

pub returns-in-Err-clause-disk : goal.returns-in-Err-clause-disk
returns-in-Err-clause-disk g c = failure_cuts (state g.S.Store c.args.connection.now) (state g.S.Store c.look.new.connection) c.in-Err.failure.lost c.in-Err.ensures.disk
