use Rattle.sqlite.specs.Held.{state}
use Rattle.sql_changes.specs.OnDomains.{OnDomain, SparesDomains}
use Rattle.sql_changes.specs.UnitWrites.{PutsUnitRow}
use Rattle.sql_commits.proofs.WritesInTurn.{write_then, unseen_first}
use Rattle.sql_commits.specs.Figures.{FollowsOwnRow}
use Rattle.sql_figures.specs.Figures.{FiguresStay}
use Rattle.sql_commits.proofs.FiguresInTurn.{row_written}
use Rattle.sql_decoding.proofs.DiskFailures.{fails_behind, failure_told}
use Rattle.sql_commits.proofs.unit_parts.write_view_row.Goals as goal

-- the tally moves, which no domain sees, and then the row is written
pub returns-clause-put : goal.returns-clause-put
returns-clause-put g c =
    let old = state g.S.Store c.args.tx.now.conn.now in
    let mid = state g.S.Store c.move_row_tally.new.tx.conn.now in
    let new = state g.S.Store c.write_row.new.tx.conn.now in
    let domain = c.args.domain.now in
    let Unit = PutsUnitRow c.args.lang.now c.args.view.now.unit in
    write_then old mid new c.in_ok-move_row_tally.field-0 c.write_row.result SparesDomains (OnDomain domain Unit) (OnDomain domain Unit) (unseen_first domain Unit) c.in_ok-move_row_tally.ensures.spares c.write_row.ensures.put

pub returns-clause-figures : goal.returns-clause-figures
returns-clause-figures g c =
    let old = state g.S.Store c.args.tx.now.conn.now in
    let mid = state g.S.Store c.move_row_tally.new.tx.conn.now in
    let new = state g.S.Store c.write_row.new.tx.conn.now in
    let domain = c.args.domain.now in
    let lang = c.args.lang.now in
    let view = c.args.view.now in
    let Row = FollowsOwnRow domain lang view in
    write_then old mid new c.in_ok-move_row_tally.field-0 c.write_row.result Row FiguresStay Row (λ moved stays. row_written domain lang old.now mid.now new.now stays view moved) c.in_ok-move_row_tally.ensures.figures c.write_row.ensures.figures

pub returns-in_err-move_row_tally-clause-disk : goal.returns-in_err-move_row_tally-clause-disk
returns-in_err-move_row_tally-clause-disk g c =
    failure_told (state g.S.Store c.args.tx.now.conn.now) (state g.S.Store c.move_row_tally.new.tx.conn.now) _ c.from_residual.result c.from_residual.ensures.1 c.in_err-move_row_tally.ensures.disk

pub returns-clause-disk : goal.returns-clause-disk
returns-clause-disk g c =
    fails_behind (state g.S.Store c.args.tx.now.conn.now) (state g.S.Store c.move_row_tally.new.tx.conn.now) (state g.S.Store c.write_row.new.tx.conn.now) (λ _. ⊥) (λ _. ⊥) c.write_row.result c.in_ok-move_row_tally.ensures.spares.survives c.write_row.ensures.put.survives
    (c.write_row.ensures.disk)
