use Rattle.std.proofs.Common.{Ok, [], ℕ, ◌+◌, take, ◌∙◌, refl}
use Rattle.sqlite.specs.Held.{state}
use Rattle.sqlite.specs.declared.error.Error.{Error}
use Rattle.sql_decoding.specs.declared.faults.Failure.{Failure}
use Rattle.sql_changes.specs.EntryWrites.{PutsUnless, PutsOthers}
use Rattle.sql_changes.proofs.DomainWrites.{seen, on_domain_then, nothing_on_domain}
use Rattle.sql_commits.proofs.EntriesShown.{entries_next}
use Rattle.sql_commits.proofs.WritesInTurn.{nothing_put, write_then, write_told}
use Rattle.sql_decoding.proofs.DiskFailures.{fails_behind, failure_told}
use Rattle.sql_commits.proofs.changed_entries.put_others.Goals as goal
use Rattle.sql_changes.specs.OnDomains.{OnDomain}
use Rattle.sql_figures.specs.Figures.{FiguresStay}
use Rattle.sql_figures.proofs.FigureSteps.{stay_both, nothing_follows}

pub loop-place-preserved : goal.loop-place-preserved
loop-place-preserved g c =
    let old = state g.S.Store c.args.tx.now.conn.now in
    let mid = state g.S.Store c.loop-place.tx.conn.now in
    let new = state g.S.Store c.put_unless.new.tx.conn.now in
    let domain = c.args.domain.now in
    let entries = c.args.entries.now in
    let place = c.loop-place.place in
    let stays = c.args.stays.now in
    let stay = c.stays_at.result in
    let One = OnDomain domain (PutsUnless stay place c.index-entries-place.result) in (
      refl,
      c.in_ok-put_unless.ensures.same_reference ∙ c.loop-place.invariant.1,
      write_then old mid new {A = ℕ} {B = ℕ} {E = Error} {F = Error} 0 (Ok 0) (OnDomain domain (PutsOthers 0 stays (take place entries))) One (OnDomain domain (PutsOthers 0 stays (take (place + 1) entries)))
          (on_domain_then domain (PutsOthers 0 stays (take place entries)) (PutsUnless stay place c.index-entries-place.result) (PutsOthers 0 stays (take (place + 1) entries))
          (entries_next stays entries place c.index-entries-place.result stay (seen domain old.now) (seen domain mid.now) (seen domain new.now) c.loop-place-test.true c.index-entries-place.is c.stays_at.ensures))
          c.loop-place.invariant.2 (write_told mid new {E = Failure} c.in_ok-put_unless.field-0 0 One One (λ made. made) c.in_ok-put_unless.ensures.put),
      write_then old mid new {A = ℕ} {B = ℕ} {E = Error} {F = Error} 0 (Ok 0) FiguresStay FiguresStay FiguresStay stay_both c.loop-place.invariant.3
          (write_told mid new {E = Failure} c.in_ok-put_unless.field-0 0 FiguresStay FiguresStay (λ stays. stays) c.in_ok-put_unless.ensures.figures),
    )

pub loop-place-init : goal.loop-place-init
loop-place-init g c =
    let old = state g.S.Store c.args.tx.now.conn.now in
    let domain = c.args.domain.now in
    let None = PutsOthers 0 c.args.stays.now [] in
    (refl, refl, nothing_put old {E = Error} 0 (OnDomain domain None) c.requires.steady c.requires.open (nothing_on_domain domain None old.now refl), nothing_put old {E = Error} 0 FiguresStay c.requires.steady c.requires.open (nothing_follows old.now))

pub returns-in_err-put_unless-clause-disk : goal.returns-in_err-put_unless-clause-disk
returns-in_err-put_unless-clause-disk g c =
    fails_behind (state g.S.Store c.args.tx.now.conn.now) (state g.S.Store c.loop-place.tx.conn.now) (state g.S.Store c.put_unless.new.tx.conn.now) (λ _. ⊥) (λ _. ⊥) c.from_residual.result c.loop-place.invariant.2.survives c.in_err-put_unless.ensures.put.survives
    (failure_told (state g.S.Store c.loop-place.tx.conn.now) (state g.S.Store c.put_unless.new.tx.conn.now) _ c.from_residual.result c.from_residual.ensures.1 c.in_err-put_unless.ensures.disk)
