use Rattle.std.proofs.Common.{Ok, [], ℕ, ◌+◌, take, ◌∙◌, refl}
use Rattle.sqlite.specs.Held.{state}
use Rattle.sqlite.specs.declared.error.Error.{Error}
use Rattle.sql_decoding.specs.declared.faults.Failure.{Failure}
use Rattle.sql_changes.specs.UnitWrites.{AddsNumberedSuggestion, AddsNumberedSuggestions}
use Rattle.sql_changes.proofs.DomainWrites.{seen, on_domain_then, nothing_on_domain}
use Rattle.sql_commits.proofs.WritesInTurn.{nothing_put, write_then, write_told, adds_suggestion_next}
use Rattle.sql_decoding.proofs.DiskFailures.{fails_behind, failure_told}
use Rattle.sql_commits.proofs.unit_writes.add_suggestions.Goals as goal
use Rattle.sql_changes.specs.OnDomains.{OnDomain}
use Rattle.sql_figures.specs.Figures.{FiguresStay}
use Rattle.sql_figures.proofs.FigureSteps.{stay_both, nothing_follows}

pub loop-place-preserved : goal.loop-place-preserved
loop-place-preserved g c =
    let old = state g.S.Store c.args.tx.now.conn.now in
    let domain = c.args.domain.now in
    let mid = state g.S.Store c.loop-place.tx.conn.now in
    let new = state g.S.Store c.add_suggestion.new.tx.conn.now in
    let lang = c.args.lang.now in
    let key = c.args.key.now in
    let suggestions = c.args.suggestions.now in
    let place = c.loop-place.place in
    let One = OnDomain domain (AddsNumberedSuggestion lang key place c.index-suggestions-place.result) in (
      refl,
      c.in_ok-add_suggestion.ensures.same_reference ∙ c.loop-place.invariant.1,
      write_then old mid new {A = ℕ} {B = ℕ} {E = Error} {F = Error} 0 (Ok 0) (OnDomain domain (AddsNumberedSuggestions lang key (take place suggestions))) One (OnDomain domain (AddsNumberedSuggestions lang key (take (place + 1) suggestions)))
          (on_domain_then domain (AddsNumberedSuggestions lang key (take place suggestions)) (AddsNumberedSuggestion lang key place c.index-suggestions-place.result) (AddsNumberedSuggestions lang key (take (place + 1) suggestions))
          (adds_suggestion_next lang key suggestions place c.index-suggestions-place.result (seen domain old.now) (seen domain mid.now) (seen domain new.now) c.loop-place-test.true c.index-suggestions-place.is))
          c.loop-place.invariant.2 (write_told mid new {E = Failure} c.in_ok-add_suggestion.field-0 0 One One (λ made. made) c.in_ok-add_suggestion.ensures.put),
      write_then old mid new {A = ℕ} {B = ℕ} {E = Error} {F = Error} 0 (Ok 0) FiguresStay FiguresStay FiguresStay stay_both c.loop-place.invariant.3
          (write_told mid new {E = Failure} c.in_ok-add_suggestion.field-0 0 FiguresStay FiguresStay (λ stays. stays) c.in_ok-add_suggestion.ensures.figures),
    )

pub loop-place-init : goal.loop-place-init
loop-place-init g c =
    let old = state g.S.Store c.args.tx.now.conn.now in
    let domain = c.args.domain.now in
    let None = AddsNumberedSuggestions c.args.lang.now c.args.key.now [] in
    (refl, refl, nothing_put old {E = Error} 0 (OnDomain domain None) c.requires.steady c.requires.open (nothing_on_domain domain None old.now (refl, λ s there. absurd there)), nothing_put old {E = Error} 0 FiguresStay c.requires.steady c.requires.open (nothing_follows old.now))

pub returns-in_err-add_suggestion-clause-disk : goal.returns-in_err-add_suggestion-clause-disk
returns-in_err-add_suggestion-clause-disk g c =
    fails_behind (state g.S.Store c.args.tx.now.conn.now) (state g.S.Store c.loop-place.tx.conn.now) (state g.S.Store c.add_suggestion.new.tx.conn.now) (λ _. ⊥) (λ _. ⊥) c.from_residual.result c.loop-place.invariant.2.survives c.in_err-add_suggestion.ensures.put.survives
    (failure_told (state g.S.Store c.loop-place.tx.conn.now) (state g.S.Store c.add_suggestion.new.tx.conn.now) _ c.from_residual.result c.from_residual.ensures.1 c.in_err-add_suggestion.ensures.disk)
