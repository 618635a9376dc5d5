use Rattle.std.proofs.Common.{refl, sym, append-nil, [], Ok, ℕ, ◌∙◌}
use Rattle.sqlite.specs.Held.{state}
use Rattle.sqlite.specs.declared.error.Error.{Error}
use Rattle.sql_decoding.specs.declared.faults.Failure.{Failure}
use Rattle.sql_commits.specs.Changes.{WritesUnlessStays}
use Rattle.sql_commits.proofs.PlannedWrites.{UnitsBehind, units_behind}
use Rattle.sql_commits.proofs.WritesInTurn.{write_then, write_told}
use Rattle.sql_decoding.proofs.DiskFailures.{fails_behind, failure_told}
use Rattle.sql_commits.proofs.planned_units.write_units_back.Goals as goal
use Rattle.sql_changes.specs.OnDomains.{OnDomain}
use Rattle.sql_changes.proofs.DomainWrites.{seen, on_domain_then, nothing_on_domain}
use Rattle.sql_figures.specs.Figures.{FiguresStay}
use Rattle.sql_figures.proofs.FigureSteps.{stay_both, nothing_follows}
use Rattle.sql_commits.proofs.WritesInTurn.{nothing_put}

pub loop-last-preserved : goal.loop-last-preserved
loop-last-preserved g c =
    let old = state g.S.Store c.args.tx.now.conn.now in
    let domain = c.args.domain.now in
    let mid = state g.S.Store c.loop-last.tx.conn.now in
    let new = state g.S.Store c.write_changed.new.tx.conn.now in
    let lang = c.args.lang.now in
    let units = c.args.units.now in
    let left = c.loop-last.left.now in
    let others = c.in-Some.others.now in
    let last = c.in-Some.last.now in
    let stays = c.args.stays.now in
    let is_still = c.stays_at-is_still.result in
    let One = OnDomain domain (WritesUnlessStays is_still lang last) in (
      c.in_ok-write_changed.ensures.same_reference ∙ c.loop-last.invariant.0,
      write_then old mid new {A = ℕ} {B = ℕ} {E = Error} {F = Error} 0 (Ok 0) (OnDomain domain (UnitsBehind lang stays units left)) One (OnDomain domain (UnitsBehind lang stays units others))
          (on_domain_then domain (UnitsBehind lang stays units left) (WritesUnlessStays is_still lang last) (UnitsBehind lang stays units others)
          (units_behind lang stays units left others last is_still (seen domain old.now) (seen domain mid.now) (seen domain new.now) c.in-Some.ensures.cases.0
          c.stays_at-is_still.ensures)) c.loop-last.invariant.1
          (write_told mid new {E = Failure} c.in_ok-write_changed.field-0 0 One One (λ made. made) c.in_ok-write_changed.ensures.put),
      write_then old mid new {A = ℕ} {B = ℕ} {E = Error} {F = Error} 0 (Ok 0) FiguresStay FiguresStay FiguresStay stay_both c.loop-last.invariant.2
          (write_told mid new {E = Failure} c.in_ok-write_changed.field-0 0 FiguresStay FiguresStay (λ stays. stays) c.in_ok-write_changed.ensures.figures),
    )

pub loop-last-init : goal.loop-last-init
loop-last-init g c =
    let old = state g.S.Store c.args.tx.now.conn.now in
    let domain = c.args.domain.now in
    let None = UnitsBehind c.args.lang.now c.args.stays.now c.args.units.now c.args.units.now in
    (refl, nothing_put old {E = Error} 0 (OnDomain domain None) c.requires.steady c.requires.open (nothing_on_domain domain None old.now ([], sym (append-nil c.args.units.now), refl)), nothing_put old {E = Error} 0 FiguresStay c.requires.steady c.requires.open (nothing_follows old.now))

pub returns-in_err-write_changed-clause-disk : goal.returns-in_err-write_changed-clause-disk
returns-in_err-write_changed-clause-disk g c =
    fails_behind (state g.S.Store c.args.tx.now.conn.now) (state g.S.Store c.loop-last.tx.conn.now) (state g.S.Store c.write_changed.new.tx.conn.now) (λ _. ⊥) (λ _. ⊥) c.from_residual.result c.loop-last.invariant.1.survives c.in_err-write_changed.ensures.put.survives
    (failure_told (state g.S.Store c.loop-last.tx.conn.now) (state g.S.Store c.write_changed.new.tx.conn.now) _ c.from_residual.result c.from_residual.ensures.1 c.in_err-write_changed.ensures.disk)
