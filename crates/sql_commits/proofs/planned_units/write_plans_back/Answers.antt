use Rattle.std.proofs.Common.{refl, sym, append-nil, [], Ok, ℕ, ◌∙◌}
use Rattle.sqlite.specs.Held.{state}
use Rattle.sqlite.specs.declared.error.Error.{Error}
use Rattle.sql_decoding.specs.declared.faults.Failure.{Failure}
use Rattle.template_update.specs.Marks.{unmarked}
use Rattle.sql_changes.specs.UnitWrites.{WritesUnitsBack}
use Rattle.sql_commits.proofs.PlannedWrites.{PlansBehind, plans_behind}
use Rattle.sql_commits.proofs.WritesInTurn.{write_then, write_told}
use Rattle.sql_decoding.proofs.DiskFailures.{fails_behind, failure_told}
use Rattle.sql_commits.proofs.planned_units.write_plans_back.Goals as goal
use Rattle.sql_changes.specs.OnDomains.{OnDomain}
use Rattle.sql_changes.proofs.DomainWrites.{seen, on_domain_then, nothing_on_domain}
use Rattle.sql_figures.specs.Figures.{FiguresStay}
use Rattle.sql_figures.proofs.FigureSteps.{stay_both, nothing_follows}
use Rattle.sql_commits.proofs.WritesInTurn.{nothing_put}

pub loop-last-preserved : goal.loop-last-preserved
loop-last-preserved g c =
    let old = state g.S.Store c.args.tx.now.conn.now in
    let domain = c.args.domain.now in
    let mid = state g.S.Store c.loop-last.tx.conn.now in
    let new = state g.S.Store c.write_units_back.new.tx.conn.now in
    let plans = c.args.plans.now in
    let left = c.loop-last.left.now in
    let others = c.in-Some.others.now in
    let last = c.in-Some.last.now in
    let units = c.as_slice.result.now in
    let stays = c.as_slice-in-Some.result.now in
    let One = OnDomain domain (WritesUnitsBack last.0 (unmarked units stays)) in (
      c.in_ok-write_units_back.ensures.same_reference ∙ c.loop-last.invariant.0,
      write_then old mid new {A = ℕ} {B = ℕ} {E = Error} {F = Error} 0 (Ok 0) (OnDomain domain (PlansBehind plans left)) One (OnDomain domain (PlansBehind plans others))
          (on_domain_then domain (PlansBehind plans left) (WritesUnitsBack last.0 (unmarked units stays)) (PlansBehind plans others)
          (plans_behind plans left others last units stays (seen domain old.now) (seen domain mid.now) (seen domain new.now) c.in-Some.ensures.cases.0 c.as_slice.ensures c.as_slice-in-Some.ensures)) c.loop-last.invariant.1
          (write_told mid new {E = Failure} c.in_ok-write_units_back.field-0 0 One One (λ made. made) c.in_ok-write_units_back.ensures.put),
      write_then old mid new {A = ℕ} {B = ℕ} {E = Error} {F = Error} 0 (Ok 0) FiguresStay FiguresStay FiguresStay stay_both c.loop-last.invariant.2
          (write_told mid new {E = Failure} c.in_ok-write_units_back.field-0 0 FiguresStay FiguresStay (λ stays. stays) c.in_ok-write_units_back.ensures.figures),
    )

pub loop-last-init : goal.loop-last-init
loop-last-init g c =
    let old = state g.S.Store c.args.tx.now.conn.now in
    let domain = c.args.domain.now in
    let None = PlansBehind c.args.plans.now c.args.plans.now in
    (refl, nothing_put old {E = Error} 0 (OnDomain domain None) c.requires.steady c.requires.open (nothing_on_domain domain None old.now ([], sym (append-nil c.args.plans.now), refl)), nothing_put old {E = Error} 0 FiguresStay c.requires.steady c.requires.open (nothing_follows old.now))

pub returns-in_err-write_units_back-clause-disk : goal.returns-in_err-write_units_back-clause-disk
returns-in_err-write_units_back-clause-disk g c =
    fails_behind (state g.S.Store c.args.tx.now.conn.now) (state g.S.Store c.loop-last.tx.conn.now) (state g.S.Store c.write_units_back.new.tx.conn.now) (λ _. ⊥) (λ _. ⊥) c.from_residual.result c.loop-last.invariant.1.survives c.in_err-write_units_back.ensures.put.survives
    (failure_told (state g.S.Store c.loop-last.tx.conn.now) (state g.S.Store c.write_units_back.new.tx.conn.now) _ c.from_residual.result c.from_residual.ensures.1 c.in_err-write_units_back.ensures.disk)
