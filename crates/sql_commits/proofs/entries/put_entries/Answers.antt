use Rattle.std.proofs.Common.{Ok, [], ℕ, ◌+◌, take, ◌∙◌, refl}
use Rattle.sqlite.specs.Held.{state}
use Rattle.sqlite.specs.declared.error.Error.{Error}
use Rattle.sql_decoding.specs.declared.faults.Failure.{Failure}
use Rattle.sql_changes.specs.Commits.{PutsEntry, PutsEntries}
use Rattle.sql_changes.proofs.DomainWrites.{seen, on_domain_then, nothing_on_domain}
use Rattle.sql_commits.proofs.PlannedWrites.{entries_next}
use Rattle.sql_commits.proofs.WritesInTurn.{nothing_put, write_then, write_told}
use Rattle.sql_decoding.proofs.DiskFailures.{fails_behind, failure_told}
use Rattle.sql_commits.proofs.entries.put_entries.Goals as goal
use Rattle.sql_changes.specs.OnDomains.{OnDomain}
use Rattle.sql_figures.specs.Figures.{FiguresStay}
use Rattle.sql_figures.proofs.FigureSteps.{stay_both, nothing_follows}

pub loop-place-preserved : goal.loop-place-preserved
loop-place-preserved g c =
    let old = state g.S.Store c.args.tx.now.conn.now in
    let mid = state g.S.Store c.loop-place.tx.conn.now in
    let new = state g.S.Store c.put_entry.new.tx.conn.now in
    let domain = c.args.domain.now in
    let entries = c.args.entries.now in
    let place = c.loop-place.place in
    let One = OnDomain domain (PutsEntry place c.index-entries-place.result) in (
      refl,
      c.in_ok-put_entry.ensures.same_reference ∙ c.loop-place.invariant.1,
      write_then old mid new {A = ℕ} {B = ℕ} {E = Error} {F = Error} 0 (Ok 0) (OnDomain domain (PutsEntries 0 (take place entries))) One (OnDomain domain (PutsEntries 0 (take (place + 1) entries)))
          (on_domain_then domain (PutsEntries 0 (take place entries)) (PutsEntry place c.index-entries-place.result) (PutsEntries 0 (take (place + 1) entries))
          (entries_next entries place c.index-entries-place.result (seen domain old.now) (seen domain mid.now) (seen domain new.now) c.loop-place-test.true c.index-entries-place.is))
          c.loop-place.invariant.2 (write_told mid new {E = Failure} c.in_ok-put_entry.field-0 0 One One (λ made. made) c.in_ok-put_entry.ensures.put),
      write_then old mid new {A = ℕ} {B = ℕ} {E = Error} {F = Error} 0 (Ok 0) FiguresStay FiguresStay FiguresStay stay_both c.loop-place.invariant.3
          (write_told mid new {E = Failure} c.in_ok-put_entry.field-0 0 FiguresStay FiguresStay (λ stays. stays) c.in_ok-put_entry.ensures.figures),
    )

pub loop-place-init : goal.loop-place-init
loop-place-init g c =
    let old = state g.S.Store c.args.tx.now.conn.now in
    let domain = c.args.domain.now in
    let None = PutsEntries 0 [] in
    (refl, refl, nothing_put old {E = Error} 0 (OnDomain domain None) c.requires.steady c.requires.open (nothing_on_domain domain None old.now refl), nothing_put old {E = Error} 0 FiguresStay c.requires.steady c.requires.open (nothing_follows old.now))

pub returns-in_err-put_entry-clause-disk : goal.returns-in_err-put_entry-clause-disk
returns-in_err-put_entry-clause-disk g c =
    fails_behind (state g.S.Store c.args.tx.now.conn.now) (state g.S.Store c.loop-place.tx.conn.now) (state g.S.Store c.put_entry.new.tx.conn.now) (λ _. ⊥) (λ _. ⊥) c.from_residual.result c.loop-place.invariant.2.survives c.in_err-put_entry.ensures.put.survives
    (failure_told (state g.S.Store c.loop-place.tx.conn.now) (state g.S.Store c.put_entry.new.tx.conn.now) _ c.from_residual.result c.from_residual.ensures.1 c.in_err-put_entry.ensures.disk)
