use Rattle.std.proofs.Common.{◌≡◌, subst}
use Rattle.sqlite.specs.Effect.{Database}
use Rattle.sqlite.specs.Held.{state}
use Rattle.sql_decoding.specs.declared.faults.Failure.{Failure}
use Rattle.sql_changes.specs.OnDomains.{SparesDomains}
use Rattle.sql_commits.proofs.WritesInTurn.{write_read, write_then}
use Rattle.sql_commits.specs.Counted.{ShowsValues}
use Rattle.sql_commits.specs.Figures.{FollowsView}
use Rattle.sql_figures.specs.Figures.{moved_at, FiguresFollow}
use Rattle.sql_commits.proofs.FiguresInTurn.{write_answered}
use Rattle.sql_commits.proofs.TalliesMoved.{moves_view}
use Rattle.sql_decoding.proofs.DiskFailures.{fails_behind, failure_told, memory_told}
use Rattle.sql_commits.proofs.tallies.move_tally.Goals as goal

pub returns-clause-spares : goal.returns-clause-spares
returns-clause-spares g c =
    let old = state g.S.Store c.args.tx.now.conn.now in
    let mid = state g.S.Store c.values_there.new.tx.conn.now in
    let new = state g.S.Store c.put_difference.new.tx.conn.now in
    let there = c.in_ok-there.there in
    let read = write_read old mid {F = Failure} there there (ShowsValues c.args.domain.now c.args.lang.now c.args.view.now.unit.key) c.in_ok-there.ensures.found in
    write_then old mid new there c.put_difference.result (λ (before after : Database). after ≡ before) SparesDomains SparesDomains (λ same put. subst (λ db. SparesDomains db new.now) same put) read c.put_difference.ensures.spares

pub returns-clause-figures : goal.returns-clause-figures
returns-clause-figures g c =
    let old = state g.S.Store c.args.tx.now.conn.now in
    let mid = state g.S.Store c.values_there.new.tx.conn.now in
    let new = state g.S.Store c.put_difference.new.tx.conn.now in
    let domain = c.args.domain.now in
    let lang = c.args.lang.now in
    let view = c.args.view.now in
    let there = c.in_ok-there.there in
    let was = c.counted_there-was.result in
    let is = c.in_ok-is.is' in
    let Shown = λ (before after : Database). (after ≡ before) × ShowsValues domain lang view.unit.key before there in
    let read = write_answered old mid {F = Failure} there there (ShowsValues domain lang view.unit.key) c.in_ok-there.ensures.found in
    write_then old mid new there c.put_difference.result Shown (FiguresFollow (moved_at domain lang was is)) (FollowsView domain lang view)
    (moves_view domain lang view there was is old.now mid.now new.now c.counted_there-was.ensures c.in_ok-is.ensures) read c.put_difference.ensures.figures

pub returns-in_err-there-clause-disk : goal.returns-in_err-there-clause-disk
returns-in_err-there-clause-disk g c =
    failure_told (state g.S.Store c.args.tx.now.conn.now) (state g.S.Store c.values_there.new.tx.conn.now) _ c.from_residual.result c.from_residual.ensures.1 c.in_err-there.ensures.disk

pub returns-in_err-is-clause-disk : goal.returns-in_err-is-clause-disk
returns-in_err-is-clause-disk g c =
    memory_told (state g.S.Store c.args.tx.now.conn.now) (state g.S.Store c.values_there.new.tx.conn.now) c.from_residual-in_err-is.result c.from_residual-in_err-is.ensures.1

pub returns-clause-disk : goal.returns-clause-disk
returns-clause-disk g c =
    fails_behind (state g.S.Store c.args.tx.now.conn.now) (state g.S.Store c.values_there.new.tx.conn.now) (state g.S.Store c.put_difference.new.tx.conn.now) (λ _. ⊥) (λ _. ⊥) c.put_difference.result c.in_ok-there.ensures.found.survives c.put_difference.ensures.spares.survives
    (c.put_difference.ensures.disk)
