use Rattle.std.proofs.Common.{◌≡◌, Option, Some, option_map, subst}
use Rattle.sqlite.specs.Effect.{Database}
use Rattle.sqlite.specs.Held.{state}
use Rattle.po_text.specs.Texts.{Text}
use Rattle.units.specs.Office.{project_in}
use Rattle.office_specification.specs.UnitAccess.{context_of, without_suggestions}
use Rattle.office_specification.specs.declared.values.ActContext.{ActContext}
use Rattle.sql_schema.specs.Layouts.{rows_named}
use Rattle.sql_schema.specs.Whole.{IsLookUp}
use Rattle.sql_meaning.specs.Domains.{office_of_rows}
use Rattle.store_sql.specs.declared.office_part.OfficePart.{OfficePart}
use Rattle.store_sql.specs.OfficeParts.{part_with}
use Rattle.store_sql.specs.TablesInFile.{IsPartAtHand}
use Rattle.store_sql.proofs.AtHand.{part_still, part_found}
use Rattle.store_sql.proofs.PartsTold.{told_without}
use Rattle.sql_decoding.proofs.DiskFailures.{failure_told}
use Rattle.store_sql.proofs.act_contexts.read_unit.Goals as goal

pub read_unit_beside-requires-clause-held : goal.read_unit_beside-requires-clause-held
read_unit_beside-requires-clause-held g c = subst (IsPartAtHand (state g.S.Store c.args.connection.now)) c.in-Some.ensures.kept c.requires.held

pub returns-in-Some-clause-found : goal.returns-in-Some-clause-found
returns-in-Some-clause-found g c =
    subst (λ (asked : Text × Text × Text). IsLookUp (state g.S.Store c.args.connection.now) (state g.S.Store c.read_unit_beside.new.connection) c.read_unit_beside.result
    (λ db r. r ≡ without_suggestions (context_of (project_in (office_of_rows (rows_named db)) asked.0) asked.1 c.args.key.now asked.2)))
    (λ i. (c.in-Some.ensures.domain i, c.in-Some.ensures.lang i, c.in-Some.ensures.name i)) c.read_unit_beside.ensures.found

pub returns-in-Some-clause-held : goal.returns-in-Some-clause-held
returns-in-Some-clause-held g c =
    part_still (state g.S.Store c.args.connection.now) (state g.S.Store c.read_unit_beside.new.connection) c.read_unit_beside.result _ c.args.kept.now.part c.read_unit_beside.ensures.found c.requires.held

pub returns-in_err-found-clause-held : goal.returns-in_err-found-clause-held
returns-in_err-found-clause-held g c =
    part_still (state g.S.Store c.args.connection.now) (state g.S.Store c.read_unit_anew.new.connection) _ _ c.args.kept.now.part c.in_err-found.ensures.found c.requires.held

pub returns-clause-held : goal.returns-clause-held
returns-clause-held g c =
    let domain = c.args.domain.now in
    let lang = c.args.lang.now in
    let name = c.args.name.now in
    let found = c.in_ok-found.found in
    let P : Database → Option ActContext → Type 0 = (λ (db : Database) (r : Option ActContext). r ≡ without_suggestions (context_of (project_in (office_of_rows (rows_named db)) domain) lang c.args.key.now name)) in
    let Told : OfficePart → Type 0 = (λ (part : OfficePart). option_map (part_with domain lang name) found ≡ Some part) in
    part_found (state g.S.Store c.args.connection.now) (state g.S.Store c.read_unit_anew.new.connection) found P Told c.part_to_keep.result c.in_ok-found.ensures.found c.part_to_keep.ensures
    (λ db part is told. told_without (office_of_rows (rows_named db)) domain lang name c.args.key.now found part is told)

pub returns-in-Some-clause-disk : goal.returns-in-Some-clause-disk
returns-in-Some-clause-disk g c = c.read_unit_beside.ensures.disk

pub returns-in_err-found-clause-disk : goal.returns-in_err-found-clause-disk
returns-in_err-found-clause-disk g c =
    failure_told (state g.S.Store c.args.connection.now) (state g.S.Store c.read_unit_anew.new.connection) _ c.from_residual.result c.from_residual.ensures.1 c.in_err-found.ensures.disk
