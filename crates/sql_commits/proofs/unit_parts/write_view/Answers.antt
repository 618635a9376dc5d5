use Rattle.sqlite.specs.Held.{state}
use Rattle.sql_changes.specs.OnDomains.{OnDomain, SparesDomains}
use Rattle.sql_changes.specs.UnitWrites.{WritesNumberedUnit}
use Rattle.sql_commits.proofs.WritesInTurn.{write_then, unseen_first}
use Rattle.sql_commits.specs.Figures.{FollowsView}
use Rattle.sql_figures.specs.Figures.{FiguresStay}
use Rattle.sql_commits.proofs.FiguresInTurn.{view_written}
use Rattle.sql_decoding.proofs.DiskFailures.{fails_behind, failure_told}
use Rattle.sql_commits.proofs.unit_parts.write_view.Goals as goal

-- the tally moves, which no domain sees, and then the unit is written
pub returns-clause-put : goal.returns-clause-put
returns-clause-put g c =
    let old = state g.S.Store c.args.tx.now.conn.now in
    let mid = state g.S.Store c.move_tally.new.tx.conn.now in
    let new = state g.S.Store c.write_unit.new.tx.conn.now in
    let domain = c.args.domain.now in
    let Unit = WritesNumberedUnit c.args.lang.now c.args.view.now.unit in
    write_then old mid new c.in_ok-move_tally.field-0 c.write_unit.result SparesDomains (OnDomain domain Unit) (OnDomain domain Unit) (unseen_first domain Unit) c.in_ok-move_tally.ensures.spares c.write_unit.ensures.put

pub returns-clause-figures : goal.returns-clause-figures
returns-clause-figures g c =
    let old = state g.S.Store c.args.tx.now.conn.now in
    let mid = state g.S.Store c.move_tally.new.tx.conn.now in
    let new = state g.S.Store c.write_unit.new.tx.conn.now in
    let domain = c.args.domain.now in
    let View = FollowsView domain c.args.lang.now c.args.view.now in
    write_then old mid new c.in_ok-move_tally.field-0 c.write_unit.result View FiguresStay View (λ moved stays. view_written domain c.args.lang.now old.now mid.now new.now stays c.args.view.now moved) c.in_ok-move_tally.ensures.figures c.write_unit.ensures.figures

pub returns-in_err-move_tally-clause-disk : goal.returns-in_err-move_tally-clause-disk
returns-in_err-move_tally-clause-disk g c =
    failure_told (state g.S.Store c.args.tx.now.conn.now) (state g.S.Store c.move_tally.new.tx.conn.now) _ c.from_residual.result c.from_residual.ensures.1 c.in_err-move_tally.ensures.disk

pub returns-clause-disk : goal.returns-clause-disk
returns-clause-disk g c =
    fails_behind (state g.S.Store c.args.tx.now.conn.now) (state g.S.Store c.move_tally.new.tx.conn.now) (state g.S.Store c.write_unit.new.tx.conn.now) (λ _. ⊥) (λ _. ⊥) c.write_unit.result c.in_ok-move_tally.ensures.spares.survives c.write_unit.ensures.put.survives
    (c.write_unit.ensures.disk)
