use Rattle.sqlite.specs.Held.{state}
use Rattle.units.specs.KeyTexts.{HasStrings}
use Rattle.sql_columns.specs.Written.{ArePrevious}
use Rattle.sql_changes.specs.UnitWrites.{WritesNumberedUnit}
use Rattle.sql_commits.proofs.PlannedWrites.{leaves_with_both}
use Rattle.sql_commits.proofs.planned_units.write_planned.Goals as goal

pub returns-clause-put : goal.returns-clause-put
returns-clause-put g c =
    let unit = c.args.unit.now in
    leaves_with_both (state g.S.Store c.args.tx.now.conn.now) (state g.S.Store c.write_unit.new.tx.conn.now) c.write_unit.result c.args.domain.now (WritesNumberedUnit c.args.lang.now unit) (HasStrings unit.key) (ArePrevious unit.previous)
    c.key_fits.ensures.strings c.previous_fits.ensures.strings c.write_unit.ensures.put
