use Rattle.std.proofs.Common.{◌≡◌, Some, None, rules, sym, subst}
use Rattle.sqlite.specs.Effect.{Database}
use Rattle.sqlite.specs.Held.{state}
use Rattle.sql_decoding.specs.declared.faults.Failure.{Failure}
use Rattle.sql_changes.specs.OnDomains.{SparesDomains}
use Rattle.sql_changes.proofs.DomainWrites.{nothing_made}
use Rattle.sql_commits.proofs.WritesInTurn.{write_read, write_then, write_told}
use Rattle.sql_commits.specs.Counted.{ShowsMoving}
use Rattle.sql_commits.specs.Figures.{FollowsOwnRow}
use Rattle.sql_figures.specs.Figures.{moved_at, FiguresFollow}
use Rattle.sql_commits.proofs.FiguresInTurn.{write_answered}
use Rattle.sql_commits.proofs.TalliesMoved.{moves_row_alone, no_row_moved}
use Rattle.sql_decoding.proofs.DiskFailures.{fails_behind, failure_told}
use Rattle.sql_commits.proofs.tallies.move_row_tally.Goals as goal

pub returns-in-Some-clause-spares : goal.returns-in-Some-clause-spares
returns-in-Some-clause-spares g c =
    let old = state g.S.Store c.args.tx.now.conn.now in
    let mid = state g.S.Store c.values_to_move.new.tx.conn.now in
    let new = state g.S.Store c.put_difference.new.tx.conn.now in
    let there = c.in_ok-there.there in
    let read = write_read old mid {F = Failure} there there (ShowsMoving c.args.domain.now c.args.lang.now c.args.view.now.unit) c.in_ok-there.ensures.found in
    write_then old mid new there c.put_difference.result (λ (before after : Database). after ≡ before) SparesDomains SparesDomains (λ same put. subst (λ db. SparesDomains db new.now) same put) read c.put_difference.ensures.spares

pub returns-in-Some-clause-figures : goal.returns-in-Some-clause-figures
returns-in-Some-clause-figures g c =
    let old = state g.S.Store c.args.tx.now.conn.now in
    let mid = state g.S.Store c.values_to_move.new.tx.conn.now in
    let new = state g.S.Store c.put_difference.new.tx.conn.now in
    let domain = c.args.domain.now in
    let lang = c.args.lang.now in
    let view = c.args.view.now in
    let there = c.in_ok-there.there in
    let values = c.in-Some.values in
    let was = c.counted_so-was.result in
    let is = c.counted_so-is.result in
    let Shown = λ (before after : Database). (after ≡ before) × ShowsMoving domain lang view.unit before there in
    let read = write_answered old mid {F = Failure} there there (ShowsMoving domain lang view.unit) c.in_ok-there.ensures.found in
    let is_there : there ≡ Some values = search rules in
    write_then old mid new there c.put_difference.result Shown (FiguresFollow (moved_at domain lang was is)) (FollowsOwnRow domain lang view)
    (λ shown. moves_row_alone domain lang view values c.values_beside.result was is old.now mid.now new.now c.counted_so-was.ensures c.counted_so-is.ensures c.values_beside.ensures
    (shown.0, subst (ShowsMoving domain lang view.unit old.now) is_there shown.1)) read c.put_difference.ensures.figures

-- where there is no unit, nothing is written
pub returns-in-None-clause-spares : goal.returns-in-None-clause-spares
returns-in-None-clause-spares g c =
    let old = state g.S.Store c.args.tx.now.conn.now in
    let mid = state g.S.Store c.values_to_move.new.tx.conn.now in
    let there = c.in_ok-there.there in
    let read = write_read old mid {F = Failure} there there (ShowsMoving c.args.domain.now c.args.lang.now c.args.view.now.unit) c.in_ok-there.ensures.found in
    write_told old mid there _ (λ (before after : Database). after ≡ before) SparesDomains (λ same. subst (SparesDomains old.now) (sym same) (nothing_made old.now)) read

pub returns-in-None-clause-figures : goal.returns-in-None-clause-figures
returns-in-None-clause-figures g c =
    let old = state g.S.Store c.args.tx.now.conn.now in
    let mid = state g.S.Store c.values_to_move.new.tx.conn.now in
    let domain = c.args.domain.now in
    let lang = c.args.lang.now in
    let view = c.args.view.now in
    let there = c.in_ok-there.there in
    let Shown = λ (before after : Database). (after ≡ before) × ShowsMoving domain lang view.unit before there in
    let read = write_answered old mid {F = Failure} there there (ShowsMoving domain lang view.unit) c.in_ok-there.ensures.found in
    let is_none : there ≡ None = search rules in
    write_told old mid there _ Shown (FollowsOwnRow domain lang view) (λ shown. no_row_moved domain lang view old.now mid.now (shown.0, subst (ShowsMoving domain lang view.unit old.now) is_none shown.1)) read

pub returns-in_err-there-clause-disk : goal.returns-in_err-there-clause-disk
returns-in_err-there-clause-disk g c =
    failure_told (state g.S.Store c.args.tx.now.conn.now) (state g.S.Store c.values_to_move.new.tx.conn.now) _ c.from_residual.result c.from_residual.ensures.1 c.in_err-there.ensures.disk

pub returns-in-Some-clause-disk : goal.returns-in-Some-clause-disk
returns-in-Some-clause-disk g c =
    fails_behind (state g.S.Store c.args.tx.now.conn.now) (state g.S.Store c.values_to_move.new.tx.conn.now) (state g.S.Store c.put_difference.new.tx.conn.now) (λ _. ⊥) (λ _. ⊥) c.put_difference.result c.in_ok-there.ensures.found.survives c.put_difference.ensures.spares.survives
    (c.put_difference.ensures.disk)
