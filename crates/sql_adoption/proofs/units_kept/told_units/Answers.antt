use Rattle.std.proofs.Common.{List, Ok}
use Rattle.sqlite.specs.Held.{state}
use Rattle.sqlite.specs.Order.{Row}
use Rattle.sql_streams.specs.declared.walking.WalkFault.{WalkFault}
use Rattle.office_maps.specs.OfficeIn.{lent_project}
use Rattle.sql_decoding.specs.declared.faults.Failure.{Failure}
use Rattle.sql_statements.specs.WalkedRows.{ShowsUnitsOf}
use Rattle.sql_adoption.specs.LanguagesKept.{AreUnitsTold}
use Rattle.sql_adoption.specs.TookUnits.{TakesUnits}
use Rattle.sql_adoption.specs.declared.unit_sinks.Units.{Units}
use Rattle.sql_layouts.proofs.Looked.{walked_on, looked_failed}
use Rattle.sql_adoption.proofs.UnitsTold.{units_told}
use Rattle.sql_adoption.proofs.WalksCut.{two_named, units_cut}
use Rattle.sql_adoption.proofs.OpensBlame.{walk_opens}
use Rattle.sql_adoption.proofs.units_kept.told_units.Goals as goal

pub returns-clause-found : goal.returns-clause-found
returns-clause-found g c =
    let old = state g.S.Store c.args.connection.now in
    let project = lent_project c.args.project.now in
    let domain = c.args.domain.now in
    let lang = c.args.lang.now in
    let last = c.walk_units.new.sink in
    walked_on old (state g.S.Store c.walk_units.new.connection) {E = WalkFault Failure} _ (Ok last.told) _ (λ db told. AreUnitsTold db project domain lang told) c.in_ok-walk_units.ensures.looked (λ clean early is_open.
    let gave = c.in_ok-walk_units.ensures.handed clean in
    let shows = two_named (λ a b. ShowsUnitsOf a b old.now gave.rows) _ _ domain lang c.as_str.ensures.value c.as_str-2.ensures.value gave.answer in
    units_told old.now domain lang project gave.rows shows c.nothing.result last.told c.nothing.ensures.units c.nothing.ensures.current c.nothing.ensures.tally c.nothing.ensures.kept gave.took.took)

pub returns-in_err-walk_units-clause-found : goal.returns-in_err-walk_units-clause-found
returns-in_err-walk_units-clause-found g c =
    let project = lent_project c.args.project.now in
    looked_failed (state g.S.Store c.args.connection.now) (state g.S.Store c.walk_units.new.connection) _ c.from_residual.result _ (λ db told. AreUnitsTold db project c.args.domain.now c.args.lang.now told) c.from_residual.ensures.0
    c.in_err-walk_units.ensures.looked

pub returns-in_err-walk_units-clause-refused : goal.returns-in_err-walk_units-clause-refused
returns-in_err-walk_units-clause-refused g c =
    units_cut (state g.S.Store c.args.connection.now).now c.args.domain.now c.args.lang.now _ _ c.as_str.ensures.value c.as_str-2.ensures.value
    (λ (a : Units) (rows : List Row) (b : Units). TakesUnits (lent_project a.project.now) a.told rows (lent_project b.project.now) b.told) _ c.walk_units.new.sink c.from_residual.result c.in_err-walk_units.field-0.0
    c.from_residual.ensures.1 c.in_err-walk_units.ensures.handed

pub returns-in_err-walk_units-clause-disk : goal.returns-in_err-walk_units-clause-disk
returns-in_err-walk_units-clause-disk g c = walk_opens (state g.S.Store c.args.connection.now) (state g.S.Store c.walk_units.new.connection) c.in_err-walk_units.field-0.0 c.from_residual.result c.from_residual.ensures.1 c.in_err-walk_units.ensures.disk
