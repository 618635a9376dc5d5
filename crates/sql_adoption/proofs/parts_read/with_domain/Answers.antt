use Rattle.std.specs.Prelude.{OnOk}
use Rattle.std.proofs.Common.{◌≡◌, Ok, subst, ◌∙◌}
use Rattle.sqlite.specs.Held.{state}
use Rattle.sqlite.specs.declared.error.Error.{Error}
use Rattle.office_maps.specs.OfficeIn.{office_in}
use Rattle.sql_schema.specs.Layouts.{rows_named}
use Rattle.sql_schema.specs.SeenRows.{seen_in}
use Rattle.sql_schema.specs.Whole.{IsLookUp}
use Rattle.sql_statements.specs.WholeOffice.{ShowsWholeOfficeIn}
use Rattle.sql_layouts.proofs.Looked.{looked_on, looked_failed}
use Rattle.sql_meaning.specs.OfficeShown.{with_shown}
use Rattle.sql_decoding.proofs.DiskFailures.{error_told, mild_told}
use Rattle.sql_adoption.specs.ReadParts.{part_of}
use Rattle.sql_adoption.specs.Reading.{with_seen}
use Rattle.sql_adoption.proofs.Read.{seen_put}
use Rattle.sql_adoption.proofs.parts_read.with_domain.Goals as goal

pub returns-clause-found : goal.returns-clause-found
returns-clause-found g c =
    let old = state g.S.Store c.args.connection.now in
    let new = state g.S.Store c.look_up.new.connection in
    let domain = c.args.domain.now in
    let rows = c.in_ok-rows.rows in
    let shown = subst (λ r. OnOk r (office_in c.add_domain.new.maps ≡ with_shown (office_in c.args.maps) domain rows)) c.in_ok-needed.ensures.value c.add_domain.ensures.shown in
    looked_on old new {E = Error} rows (Ok c.add_domain.new.maps) (λ db rows. ShowsWholeOfficeIn (seen_in domain (part_of c.args.part (rows_named db))) rows)
    (λ db more. office_in more ≡ with_seen (part_of c.args.part (rows_named db)) (office_in c.args.maps) domain)
    (subst (λ name. IsLookUp {E = Error} old new (Ok rows) (λ db rows. ShowsWholeOfficeIn (seen_in name (part_of c.args.part (rows_named db))) rows)) c.as_str.ensures.value c.in_ok-rows.ensures.found)
    (λ early is_open shows. shown ∙ seen_put c.args.part old.now (c.requires.idle.ready early is_open) domain rows shows (office_in c.args.maps))

pub returns-in_err-needed-clause-found : goal.returns-in_err-needed-clause-found
returns-in_err-needed-clause-found g c =
    looked_failed (state g.S.Store c.args.connection.now) (state g.S.Store c.look_up.new.connection) {E = Error} (Ok c.in_ok-rows.rows) c.from_residual-in_err-needed.result _
    (λ db more. office_in more ≡ with_seen (part_of c.args.part (rows_named db)) (office_in c.args.maps) c.args.domain.now) c.from_residual-in_err-needed.ensures.0 c.in_ok-rows.ensures.found

pub returns-in_err-rows-clause-disk : goal.returns-in_err-rows-clause-disk
returns-in_err-rows-clause-disk g c = error_told (state g.S.Store c.args.connection.now) (state g.S.Store c.look_up.new.connection) _ c.from_residual.result c.from_residual.ensures.1 c.in_err-rows.ensures.disk

pub returns-in_err-needed-clause-disk : goal.returns-in_err-needed-clause-disk
returns-in_err-needed-clause-disk g c =
    mild_told (state g.S.Store c.args.connection.now) (state g.S.Store c.look_up.new.connection) _ c.from_residual-in_err-needed.result c.from_residual-in_err-needed.ensures.1 c.in_err-needed.ensures.told
