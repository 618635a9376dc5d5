use Rattle.std.proofs.Common.{◌≡◌, List, Ok, rules, subst}
use Rattle.sqlite.specs.Effect.{Database}
use Rattle.sqlite.specs.Held.{state}
use Rattle.sqlite.specs.Order.{Row}
use Rattle.sqlite.specs.declared.error.Error.{Error}
use Rattle.sql_schema.specs.Inside.{AreOfficeTablesOf, IsInOrder}
use Rattle.sql_schema.specs.Layouts.{by_domain}
use Rattle.sql_statements.specs.DomainAnswers.{ShowsPlaces}
use Rattle.sql_changes.specs.OnDomains.{OnDomain}
use Rattle.sql_changes.specs.UnitWrites.{AddsNumberedSuggestion, AddsLast}
use Rattle.sql_figures.specs.Figures.{FiguresStay}
use Rattle.sql_commits.specs.Votes.{ArePlacesBefore}
use Rattle.sql_commits.proofs.FiguresInTurn.{write_answered, same_stays}
use Rattle.sql_commits.proofs.LastPlaces.{adds_last}
use Rattle.sql_commits.proofs.WritesInTurn.{write_then, write_ready, write_read}
use Rattle.sql_decoding.proofs.DiskFailures.{error_told, fails_behind, mild_told}
use Rattle.sql_commits.proofs.unit_parts.add_last.Goals as goal

-- the places are read, and it is added behind the last
pub returns-clause-put : goal.returns-clause-put
returns-clause-put g c =
    let old = state g.S.Store c.args.tx.now.conn.now in
    let mid = state g.S.Store c.places_of.new.tx.conn.now in
    let new = state g.S.Store c.add_suggestion.new.tx.conn.now in
    let domain = c.args.domain.now in
    let lang = c.args.lang.now in
    let key = c.args.key.now in
    let s = c.args.suggestion.now in
    let rows = c.in_ok-places.places in
    let place = c.in_ok-place.place in
    let Shown = λ (before after : Database). (after ≡ before) × ShowsPlaces domain lang key before rows.items in
    let Ready = λ (before after : Database). AreOfficeTablesOf by_domain before × Shown before after in
    let read = write_ready old mid (Ok rows) Shown c.requires.steady (write_answered old mid {F = Error} rows rows (λ db shown. ShowsPlaces domain lang key db shown.items) c.in_ok-places.ensures.found) in
    let listed : c.as_slice.result.now ≡ rows.items = search rules in
    let behind = subst (λ (all : List Row). IsInOrder 0 all → ArePlacesBefore place all) listed c.in_ok-place.ensures.behind in
    write_then old mid new rows c.add_suggestion.result Ready (OnDomain domain (AddsNumberedSuggestion lang key place s)) (OnDomain domain (AddsLast lang key s))
    (adds_last domain lang key s rows.items place old.now mid.now new.now behind) read c.add_suggestion.ensures.put

pub returns-clause-figures : goal.returns-clause-figures
returns-clause-figures g c =
    let old = state g.S.Store c.args.tx.now.conn.now in
    let mid = state g.S.Store c.places_of.new.tx.conn.now in
    let new = state g.S.Store c.add_suggestion.new.tx.conn.now in
    let rows = c.in_ok-places.places in
    let read = write_read old mid {F = Error} rows rows (λ db shown. ShowsPlaces c.args.domain.now c.args.lang.now c.args.key.now db shown.items) c.in_ok-places.ensures.found in
    write_then old mid new rows c.add_suggestion.result (λ (before after : Database). after ≡ before) FiguresStay FiguresStay (same_stays old.now mid.now new.now) read c.add_suggestion.ensures.figures

pub returns-in_err-places-clause-disk : goal.returns-in_err-places-clause-disk
returns-in_err-places-clause-disk g c =
    error_told (state g.S.Store c.args.tx.now.conn.now) (state g.S.Store c.places_of.new.tx.conn.now) _ c.from_residual.result c.from_residual.ensures.1 c.in_err-places.ensures.disk

pub returns-in_err-place-clause-disk : goal.returns-in_err-place-clause-disk
returns-in_err-place-clause-disk g c =
    mild_told (state g.S.Store c.args.tx.now.conn.now) (state g.S.Store c.places_of.new.tx.conn.now) _ c.from_residual-in_err-place.result c.from_residual-in_err-place.ensures.1 c.in_err-place.ensures.told

pub returns-clause-disk : goal.returns-clause-disk
returns-clause-disk g c =
    fails_behind (state g.S.Store c.args.tx.now.conn.now) (state g.S.Store c.places_of.new.tx.conn.now) (state g.S.Store c.add_suggestion.new.tx.conn.now) (λ _. ⊥) (λ _. ⊥) c.add_suggestion.result c.in_ok-places.ensures.found.survives c.add_suggestion.ensures.put.survives
    (c.add_suggestion.ensures.disk)
