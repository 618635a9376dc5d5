use Rattle.std.proofs.Common.{refl, [], Ok, ℕ, ◌+◌, take, ◌∙◌}
use Rattle.sqlite.specs.Held.{state}
use Rattle.sqlite.specs.declared.error.Error.{Error}
use Rattle.sql_decoding.specs.declared.faults.Failure.{Failure}
use Rattle.sql_changes.specs.UnitWrites.{WritesPlanned, WritesUnits}
use Rattle.sql_commits.proofs.PlannedWrites.{units_next}
use Rattle.sql_commits.proofs.WritesInTurn.{write_then, write_told}
use Rattle.sql_decoding.proofs.DiskFailures.{fails_behind, failure_told}
use Rattle.sql_commits.proofs.planned_units.write_units.Goals as goal
use Rattle.sql_changes.specs.OnDomains.{OnDomain}
use Rattle.sql_changes.proofs.DomainWrites.{seen, on_domain_then, nothing_on_domain}
use Rattle.sql_figures.specs.Figures.{FiguresStay}
use Rattle.sql_figures.proofs.FigureSteps.{stay_both, nothing_follows}
use Rattle.sql_commits.proofs.WritesInTurn.{nothing_put}

pub loop-unit-preserved : goal.loop-unit-preserved
loop-unit-preserved g c =
    let old = state g.S.Store c.args.tx.now.conn.now in
    let domain = c.args.domain.now in
    let mid = state g.S.Store c.loop-unit.tx.conn.now in
    let new = state g.S.Store c.write_planned.new.tx.conn.now in
    let lang = c.args.lang.now in
    let units = c.args.units.now in
    let i = c.loop-unit.unit-index in
    let One = OnDomain domain (WritesPlanned lang c.unit-item.result) in (
      c.in_ok-write_planned.ensures.same_reference ∙ c.loop-unit.invariant.0,
      write_then old mid new {A = ℕ} {B = ℕ} {E = Error} {F = Error} 0 (Ok 0) (OnDomain domain (WritesUnits lang (take i units))) One (OnDomain domain (WritesUnits lang (take (i + 1) units)))
          (on_domain_then domain (WritesUnits lang (take i units)) (WritesPlanned lang c.unit-item.result) (WritesUnits lang (take (i + 1) units))
          (units_next lang units i c.unit-item.result (seen domain old.now) (seen domain mid.now) (seen domain new.now) c.loop-unit-test.true c.unit-item.is)) c.loop-unit.invariant.1
          (write_told mid new {E = Failure} c.in_ok-write_planned.field-0 0 One One (λ made. made) c.in_ok-write_planned.ensures.put),
      write_then old mid new {A = ℕ} {B = ℕ} {E = Error} {F = Error} 0 (Ok 0) FiguresStay FiguresStay FiguresStay stay_both c.loop-unit.invariant.2
          (write_told mid new {E = Failure} c.in_ok-write_planned.field-0 0 FiguresStay FiguresStay (λ stays. stays) c.in_ok-write_planned.ensures.figures),
    )

pub loop-unit-init : goal.loop-unit-init
loop-unit-init g c =
    let old = state g.S.Store c.args.tx.now.conn.now in
    let domain = c.args.domain.now in
    let None = WritesUnits c.args.lang.now [] in
    (refl, nothing_put old {E = Error} 0 (OnDomain domain None) c.requires.steady c.requires.open (nothing_on_domain domain None old.now refl), nothing_put old {E = Error} 0 FiguresStay c.requires.steady c.requires.open (nothing_follows old.now))

pub returns-in_err-write_planned-clause-disk : goal.returns-in_err-write_planned-clause-disk
returns-in_err-write_planned-clause-disk g c =
    fails_behind (state g.S.Store c.args.tx.now.conn.now) (state g.S.Store c.loop-unit.tx.conn.now) (state g.S.Store c.write_planned.new.tx.conn.now) (λ _. ⊥) (λ _. ⊥) c.from_residual.result c.loop-unit.invariant.1.survives c.in_err-write_planned.ensures.put.survives
    (failure_told (state g.S.Store c.loop-unit.tx.conn.now) (state g.S.Store c.write_planned.new.tx.conn.now) _ c.from_residual.result c.from_residual.ensures.1 c.in_err-write_planned.ensures.disk)
