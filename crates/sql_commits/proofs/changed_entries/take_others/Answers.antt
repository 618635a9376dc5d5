use Rattle.std.proofs.Common.{refl, [], Ok, ℕ, ◌+◌, take, ◌∙◌}
use Rattle.sqlite.specs.Held.{state}
use Rattle.sqlite.specs.declared.error.Error.{Error}
use Rattle.sql_decoding.specs.declared.faults.Failure.{Failure}
use Rattle.sql_commits.specs.Entries.{TakesUnless, TakesOthers}
use Rattle.sql_commits.proofs.EntriesShown.{none_taken, taken_next}
use Rattle.sql_commits.proofs.WritesInTurn.{write_then, write_told}
use Rattle.sql_decoding.proofs.DiskFailures.{fails_behind, failure_told}
use Rattle.sql_commits.proofs.changed_entries.take_others.Goals as goal
use Rattle.sql_changes.specs.OnDomains.{OnDomain}
use Rattle.sql_changes.proofs.DomainWrites.{seen, on_domain_then, nothing_on_domain}
use Rattle.sql_figures.specs.Figures.{FiguresStay}
use Rattle.sql_figures.proofs.FigureSteps.{stay_both, nothing_follows}
use Rattle.sql_commits.proofs.WritesInTurn.{nothing_put}

pub loop-row-preserved : goal.loop-row-preserved
loop-row-preserved g c =
    let old = state g.S.Store c.args.tx.now.conn.now in
    let domain = c.args.domain.now in
    let mid = state g.S.Store c.loop-row.tx.conn.now in
    let new = state g.S.Store c.take_unless.new.tx.conn.now in
    let stays = c.args.stays.now in
    let rows = c.args.rows.now in
    let stay = c.row_stays.result in
    let i = c.loop-row.row-index in
    let One = OnDomain domain (TakesUnless stay c.row-item.result) in (
      c.in_ok-take_unless.ensures.same_reference ∙ c.loop-row.invariant.0,
      write_then old mid new {A = ℕ} {B = ℕ} {E = Error} {F = Error} 0 (Ok 0) (OnDomain domain (TakesOthers stays (take i rows))) One (OnDomain domain (TakesOthers stays (take (i + 1) rows)))
          (on_domain_then domain (TakesOthers stays (take i rows)) (TakesUnless stay c.row-item.result) (TakesOthers stays (take (i + 1) rows))
          (taken_next stays rows i c.row-item.result stay (seen domain old.now) (seen domain mid.now) (seen domain new.now) c.loop-row-test.true c.row-item.is c.row_stays.ensures)) c.loop-row.invariant.1
          (write_told mid new {E = Failure} c.in_ok-take_unless.field-0 0 One One (λ made. made) c.in_ok-take_unless.ensures.taken),
      write_then old mid new {A = ℕ} {B = ℕ} {E = Error} {F = Error} 0 (Ok 0) FiguresStay FiguresStay FiguresStay stay_both c.loop-row.invariant.2
          (write_told mid new {E = Failure} c.in_ok-take_unless.field-0 0 FiguresStay FiguresStay (λ stays. stays) c.in_ok-take_unless.ensures.figures),
    )

pub loop-row-init : goal.loop-row-init
loop-row-init g c =
    let old = state g.S.Store c.args.tx.now.conn.now in
    let domain = c.args.domain.now in
    let stays = c.args.stays.now in
    let None = TakesOthers stays [] in
    (refl, nothing_put old {E = Error} 0 (OnDomain domain None) c.requires.steady c.requires.open (nothing_on_domain domain None old.now (none_taken stays (seen domain old.now))), nothing_put old {E = Error} 0 FiguresStay c.requires.steady c.requires.open (nothing_follows old.now))

pub returns-in_err-take_unless-clause-disk : goal.returns-in_err-take_unless-clause-disk
returns-in_err-take_unless-clause-disk g c =
    fails_behind (state g.S.Store c.args.tx.now.conn.now) (state g.S.Store c.loop-row.tx.conn.now) (state g.S.Store c.take_unless.new.tx.conn.now) (λ _. ⊥) (λ _. ⊥) c.from_residual.result c.loop-row.invariant.1.survives c.in_err-take_unless.ensures.taken.survives
    (failure_told (state g.S.Store c.loop-row.tx.conn.now) (state g.S.Store c.take_unless.new.tx.conn.now) _ c.from_residual.result c.from_residual.ensures.1 c.in_err-take_unless.ensures.disk)
