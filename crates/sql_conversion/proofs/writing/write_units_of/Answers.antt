use Rattle.std.proofs.Common.{◌≡◌, true, false, refl, Ok, ℕ, sym, ◌∙◌, rules}
use Rattle.std.specs.Map.Iter.{deref_pair}
use Rattle.std.proofs.lemmas.Bool.{not-true, not-false}
use Rattle.std.proofs.lemmas.Map.Iter.{rest_more, rest_all}
use Rattle.po_text.specs.Texts.{text_eq}
use Rattle.sqlite.specs.Held.{state}
use Rattle.sqlite.specs.declared.error.Error.{Error}
use Rattle.office_maps.specs.LanguageUnits.{taken}
use Rattle.office_maps.proofs.Ranges.{own_of}
use Rattle.tables.proofs.LanguageUnits.{starts, next_own, next_other, none_next}
use Rattle.sql_decoding.specs.declared.faults.Failure.{Failure}
use Rattle.sql_changes.specs.OnDomains.{OnDomain}
use Rattle.sql_changes.specs.UnitWrites.{WritesPlanned}
use Rattle.sql_changes.proofs.DomainWrites.{seen, on_domain_then, on_domain_as, nothing_on_domain}
use Rattle.sql_figures.specs.Figures.{FiguresStay}
use Rattle.sql_figures.proofs.FigureSteps.{stay_both, nothing_follows}
use Rattle.sql_commits.proofs.WritesInTurn.{nothing_put, write_then, write_told, write_fails}
use Rattle.sql_conversion.specs.Conversion.{WritesKept}
use Rattle.sql_conversion.proofs.WrittenInTurn.{UnitsBefore, no_unit_yet, one_unit_more, all_units_before}
use Rattle.sql_decoding.proofs.DiskFailures.{fails_behind, failure_told, memory_told}
use Rattle.sql_conversion.proofs.writing.write_units_of.Goals as goal

pub loop-place-init : goal.loop-place-init
loop-place-init g c =
    let old = state g.S.Store c.args.tx.now.conn.now in
    let domain = c.args.domain.now in
    let lang = c.args.lang.now in
    let units = c.args.project.now.domain.now.units in
    let left = c.into_iter-place-iterator.ensures.into_iter_gives ∙ c.range-place-items.ensures.between tt in
    let all = starts units lang c.in_ok-first.first c.into_iter-place-iterator.result c.in_ok-first.ensures.lang c.in_ok-first.ensures.key c.range-place-items.ensures.ordered left in
    let None = UnitsBefore lang (own_of units lang) (taken lang c.into_iter-place-iterator.result) in (
      refl,
      nothing_put old {E = Error} 0 (OnDomain domain None) c.requires.steady c.requires.open (nothing_on_domain domain None old.now (no_unit_yet lang (own_of units lang) (taken lang c.into_iter-place-iterator.result) (seen domain old.now) all)),
      nothing_put old {E = Error} 0 FiguresStay c.requires.steady c.requires.open (nothing_follows old.now),
    )

pub loop-place-preserved : goal.loop-place-preserved
loop-place-preserved g c =
    let old = state g.S.Store c.args.tx.now.conn.now in
    let domain = c.args.domain.now in
    let mid = state g.S.Store c.loop-place.tx.conn.now in
    let new = state g.S.Store c.write_planned.new.tx.conn.now in
    let lang = c.args.lang.now in
    let all = own_of c.args.project.now.domain.now.units lang in
    let unit = c.in-Some.unit.now in
    let own : text_eq lang c.in-Some.place.now.lang ≡ true = not-false (text_eq lang c.in-Some.place.now.lang) (sym c.ne.ensures ∙ c.if-ne.false) in
    let next = rest_more deref_pair c.loop-place.place-iterator c.next.new.self c.next.result (c.in-Some.place, c.in-Some.unit) c.in-Some.is c.next.ensures.steps in
    let more = next_own lang (c.in-Some.place.now, unit) c.loop-place.place-iterator c.next.new.self next own in
    let Before = UnitsBefore lang all (taken lang c.loop-place.place-iterator) in
    let After = UnitsBefore lang all (taken lang c.next.new.self) in
    let One = OnDomain domain (WritesPlanned lang unit) in (
      c.in_ok-write_planned.ensures.same_reference ∙ c.loop-place.invariant.0,
      write_then old mid new {A = ℕ} {B = ℕ} {E = Error} {F = Error} 0 (Ok 0) (OnDomain domain Before) One (OnDomain domain After)
          (on_domain_then domain Before (WritesPlanned lang unit) After
          (one_unit_more lang all (taken lang c.loop-place.place-iterator) (taken lang c.next.new.self) unit (seen domain old.now) (seen domain mid.now) (seen domain new.now) c.unit_fits.ensures more))
          c.loop-place.invariant.1 (write_told mid new {E = Failure} c.in_ok-write_planned.field-0 0 One One (λ made. made) c.in_ok-write_planned.ensures.put),
      write_then old mid new {A = ℕ} {B = ℕ} {E = Error} {F = Error} 0 (Ok 0) FiguresStay FiguresStay FiguresStay stay_both c.loop-place.invariant.2
          (write_told mid new {E = Failure} c.in_ok-write_planned.field-0 0 FiguresStay FiguresStay (λ stays. stays) c.in_ok-write_planned.ensures.figures),
    )

-- where a write failed
pub returns-in_err-write_planned-clause-put : goal.returns-in_err-write_planned-clause-put
returns-in_err-write_planned-clause-put g c =
    let old = state g.S.Store c.args.tx.now.conn.now in
    let domain = c.args.domain.now in
    let mid = state g.S.Store c.loop-place.tx.conn.now in
    let new = state g.S.Store c.write_planned.new.tx.conn.now in
    let lang = c.args.lang.now in
    let all = own_of c.args.project.now.domain.now.units lang in
    write_fails old mid new {A = ℕ} {E = Error} 0 c.write_planned.result c.from_residual-in_err-write_planned.result (OnDomain domain (UnitsBefore lang all (taken lang c.loop-place.place-iterator)))
    (OnDomain domain (WritesPlanned lang c.in-Some.unit.now)) (OnDomain domain (WritesKept lang all)) (search rules) c.loop-place.invariant.1 c.write_planned.ensures.put

pub returns-in_err-write_planned-clause-figures : goal.returns-in_err-write_planned-clause-figures
returns-in_err-write_planned-clause-figures g c =
    let old = state g.S.Store c.args.tx.now.conn.now in
    let mid = state g.S.Store c.loop-place.tx.conn.now in
    let new = state g.S.Store c.write_planned.new.tx.conn.now in
    write_fails old mid new {A = ℕ} {E = Error} 0 c.write_planned.result c.from_residual-in_err-write_planned.result FiguresStay FiguresStay FiguresStay (search rules) c.loop-place.invariant.2
    c.write_planned.ensures.figures

-- the next unit is another language's
pub returns-then-ne-clause-put : goal.returns-then-ne-clause-put
returns-then-ne-clause-put g c =
    let old = state g.S.Store c.args.tx.now.conn.now in
    let domain = c.args.domain.now in
    let mid = state g.S.Store c.loop-place.tx.conn.now in
    let lang = c.args.lang.now in
    let all = own_of c.args.project.now.domain.now.units lang in
    let other : text_eq lang c.in-Some.place.now.lang ≡ false = not-true (text_eq lang c.in-Some.place.now.lang) (sym c.ne.ensures ∙ c.if-ne.true) in
    let next = rest_more deref_pair c.loop-place.place-iterator c.next.new.self c.next.result (c.in-Some.place, c.in-Some.unit) c.in-Some.is c.next.ensures.steps in
    let none = next_other lang (c.in-Some.place.now, c.in-Some.unit.now) c.loop-place.place-iterator c.next.new.self next other in
    let Before = UnitsBefore lang all (taken lang c.loop-place.place-iterator) in
    let All = WritesKept lang all in
    write_told old mid {A = ℕ} {E = Error} {F = Failure} 0 _ (OnDomain domain Before) (OnDomain domain All)
    (on_domain_as domain Before All (all_units_before lang all (taken lang c.loop-place.place-iterator) (seen domain old.now) (seen domain mid.now) none)) c.loop-place.invariant.1

-- there is no next unit
pub returns-in-None-clause-put : goal.returns-in-None-clause-put
returns-in-None-clause-put g c =
    let old = state g.S.Store c.args.tx.now.conn.now in
    let domain = c.args.domain.now in
    let mid = state g.S.Store c.loop-place.tx.conn.now in
    let lang = c.args.lang.now in
    let all = own_of c.args.project.now.domain.now.units lang in
    let none = none_next lang c.loop-place.place-iterator (rest_all deref_pair c.loop-place.place-iterator c.next.new.self c.next.result c.in-None.is c.next.ensures.steps) in
    let Before = UnitsBefore lang all (taken lang c.loop-place.place-iterator) in
    let All = WritesKept lang all in
    write_told old mid {A = ℕ} {E = Error} {F = Failure} 0 _ (OnDomain domain Before) (OnDomain domain All)
    (on_domain_as domain Before All (all_units_before lang all (taken lang c.loop-place.place-iterator) (seen domain old.now) (seen domain mid.now) none)) c.loop-place.invariant.1

pub returns-in_err-first-clause-disk : goal.returns-in_err-first-clause-disk
returns-in_err-first-clause-disk g c = memory_told (state g.S.Store c.args.tx.now.conn.now) (state g.S.Store c.args.tx.now.conn.now) c.from_residual.result c.from_residual.ensures.1

pub returns-in_err-write_planned-clause-disk : goal.returns-in_err-write_planned-clause-disk
returns-in_err-write_planned-clause-disk g c =
    let mid = state g.S.Store c.loop-place.tx.conn.now in
    let new = state g.S.Store c.write_planned.new.tx.conn.now in
    fails_behind (state g.S.Store c.args.tx.now.conn.now) mid new (λ _. ⊥) (λ _. ⊥) c.from_residual-in_err-write_planned.result c.loop-place.invariant.1.survives c.in_err-write_planned.ensures.put.survives
    (failure_told mid new _ c.from_residual-in_err-write_planned.result c.from_residual-in_err-write_planned.ensures.1 c.in_err-write_planned.ensures.disk)
