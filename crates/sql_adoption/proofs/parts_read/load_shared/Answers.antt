use Rattle.std.proofs.Common.{◌≡◌, sym, subst}
use Rattle.sqlite.specs.Held.{state}
use Rattle.sqlite.specs.declared.error.Error.{Error}
use Rattle.units.specs.Office.{Office}
use Rattle.office_specification.specs.Parts.{ShareTeam}
use Rattle.office_maps.specs.OfficeIn.{office_in}
use Rattle.office_maps.specs.declared.office_maps.OfficeMaps.{OfficeMaps}
use Rattle.sql_schema.specs.Layouts.{rows_named}
use Rattle.sql_meaning.specs.Domains.{office_of_rows}
use Rattle.sql_layouts.proofs.Looked.{if_ok, looked_on}
use Rattle.sql_decoding.proofs.DiskFailures.{error_told, needed_shown, never_told}
use Rattle.sql_adoption.specs.PartsRead.{ShowsShared, shared_office}
use Rattle.sql_adoption.proofs.PartsRead.{shared_alike}
use Rattle.sql_adoption.proofs.parts_read.load_shared.Goals as goal

pub returns-clause-found : goal.returns-clause-found
returns-clause-found g c =
    let old = state g.S.Store c.args.connection.now in
    let new = state g.S.Store c.look_up_shared.new.connection in
    let rows = c.in_ok-rows.rows in
    let whole = office_of_rows (rows_named old.now) in
    let Shown : OfficeMaps → Type 0 = (λ maps. office_in maps ≡ shared_office rows) in
    looked_on old new {E = Error} rows c.needed.result ShowsShared (λ db maps. ShareTeam (office_in maps) (office_of_rows (rows_named db))) c.in_ok-rows.ensures.found
    (λ early is_open shows. if_ok {A = Shown} c.needed.result (λ maps is. subst (λ (o : Office). ShareTeam o whole) (sym is) (shared_alike old.now (c.requires.idle.ready early is_open) rows shows))
    (needed_shown Shown c.shared_office.result c.needed.result c.needed.ensures.value c.shared_office.ensures))

pub returns-in_err-rows-clause-disk : goal.returns-in_err-rows-clause-disk
returns-in_err-rows-clause-disk g c = error_told (state g.S.Store c.args.connection.now) (state g.S.Store c.look_up_shared.new.connection) _ c.from_residual.result c.from_residual.ensures.1 c.in_err-rows.ensures.disk

pub returns-clause-disk : goal.returns-clause-disk
returns-clause-disk g c = never_told (state g.S.Store c.args.connection.now) (state g.S.Store c.look_up_shared.new.connection) c.needed.result c.needed.ensures.told
