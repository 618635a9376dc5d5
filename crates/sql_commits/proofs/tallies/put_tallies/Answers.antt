use Rattle.std.proofs.Common.{refl, Ok, ℕ, ◌∙◌, ◌+◌, List, [], take, subst}
use Rattle.sqlite.specs.Held.{state}
use Rattle.sqlite.specs.declared.error.Error.{Error}
use Rattle.sql_decoding.specs.declared.faults.Failure.{Failure}
use Rattle.sql_changes.specs.OnDomains.{SparesDomains}
use Rattle.sql_changes.proofs.DomainWrites.{spares_both, tally_on_domains, nothing_made}
use Rattle.sql_commits.specs.Figures.{PutsTally}
use Rattle.sql_commits.proofs.WritesInTurn.{write_then, write_told, nothing_put}
use Rattle.sql_decoding.proofs.DiskFailures.{fails_behind, failure_told}
use Rattle.sql_commits.proofs.tallies.put_tallies.Goals as goal
use Rattle.sqlite.specs.Effect.{Database}
use Rattle.po_text.specs.Texts.{Text}
use Rattle.office_specification.specs.declared.tally.Tally.{Tally}
use Rattle.sql_figures.specs.Figures.{with_tallies, FiguresFollow}
use Rattle.sql_figures.proofs.FigureSteps.{nothing_follows}
use Rattle.sql_commits.proofs.FiguresInTurn.{tallies_next}
use Rattle.std.proofs.lemmas.List.{take_all}

abbrev So_far : Text → List (Text × Tally) → Database → Database → Type 0
So_far domain tallies = FiguresFollow (with_tallies domain tallies)

pub loop-tallied-preserved : goal.loop-tallied-preserved
loop-tallied-preserved g c =
    let old = state g.S.Store c.args.tx.now.conn.now in
    let mid = state g.S.Store c.loop-tallied.tx.conn.now in
    let new = state g.S.Store c.put_tally_of.new.tx.conn.now in
    let domain = c.args.domain.now in
    let tallies = c.args.tallies.now in
    let i = c.loop-tallied.tallied-index in
    let One = PutsTally domain c.tallied-item.result.0 c.tallied-item.result.1 in (
      c.in_ok-put_tally_of.ensures.same_reference ∙ c.loop-tallied.invariant.0,
      write_then old mid new {A = ℕ} {B = ℕ} {E = Error} {F = Error} 0 (Ok 0) SparesDomains One SparesDomains (λ same put. spares_both same (tally_on_domains put)) c.loop-tallied.invariant.1
          (write_told mid new {E = Failure} c.in_ok-put_tally_of.field-0 0 One One (λ made. made) c.in_ok-put_tally_of.ensures.put),
      write_then old mid new {A = ℕ} {B = ℕ} {E = Error} {F = Error} 0 (Ok 0) (So_far domain (take i tallies)) One (So_far domain (take (i + 1) tallies))
          (tallies_next domain tallies i c.tallied-item.result old.now mid.now new.now c.loop-tallied-test.true c.tallied-item.is) c.loop-tallied.invariant.2
          (write_told mid new {E = Failure} c.in_ok-put_tally_of.field-0 0 One One (λ made. made) c.in_ok-put_tally_of.ensures.put),
    )

pub loop-tallied-init : goal.loop-tallied-init
loop-tallied-init g c =
    let old = state g.S.Store c.args.tx.now.conn.now in
    (refl, nothing_put old {E = Error} 0 SparesDomains c.requires.steady c.requires.open (nothing_made old.now), nothing_put old {E = Error} 0 (So_far c.args.domain.now []) c.requires.steady c.requires.open (nothing_follows old.now))

pub returns-clause-figures : goal.returns-clause-figures
returns-clause-figures g c =
    let old = state g.S.Store c.args.tx.now.conn.now in
    let last = state g.S.Store c.loop-tallied.tx.conn.now in
    let domain = c.args.domain.now in
    let tallies = c.args.tallies.now in
    let i = c.loop-tallied.tallied-index in
    write_told old last {E = Error} 0 _ (So_far domain (take i tallies)) (So_far domain tallies) (subst (λ ts. So_far domain ts old.now last.now) (take_all i tallies c.loop-tallied-test.false)) c.loop-tallied.invariant.2

pub returns-in_err-put_tally_of-clause-disk : goal.returns-in_err-put_tally_of-clause-disk
returns-in_err-put_tally_of-clause-disk g c =
    fails_behind (state g.S.Store c.args.tx.now.conn.now) (state g.S.Store c.loop-tallied.tx.conn.now) (state g.S.Store c.put_tally_of.new.tx.conn.now) (λ _. ⊥) (λ _. ⊥) c.from_residual.result c.loop-tallied.invariant.1.survives c.in_err-put_tally_of.ensures.put.survives
    (failure_told (state g.S.Store c.loop-tallied.tx.conn.now) (state g.S.Store c.put_tally_of.new.tx.conn.now) _ c.from_residual.result c.from_residual.ensures.1 c.in_err-put_tally_of.ensures.disk)
