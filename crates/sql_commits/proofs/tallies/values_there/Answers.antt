use Rattle.std.proofs.Common.{Ok, rules, ap, ◌∙◌}
use Rattle.sqlite.specs.Effect.{Database}
use Rattle.sqlite.specs.Held.{state}
use Rattle.sql_decoding.specs.declared.units_read.UnitNumbers.{UnitNumbers}
use Rattle.sql_schema.proofs.Sequences.{reads_both}
use Rattle.sql_statements.specs.DomainAnswers.{ShowsDomainUnit, ShowsPlaces}
use Rattle.sql_commits.specs.Counted.{ShowsValues}
use Rattle.sql_commits.specs.declared.unit_counts.CountedValues.{CountedValues}
use Rattle.sql_commits.proofs.FiguresInTurn.{read_told}
use Rattle.sql_commits.proofs.TalliesMoved.{values_shown, none_shown}
use Rattle.sql_decoding.proofs.DiskFailures.{error_told, fails_behind, memory_told, mild_told, needed_is}
use Rattle.sql_commits.proofs.tallies.values_there.Goals as goal

-- two queries, and what both show
pub returns-in-Some-clause-found : goal.returns-in-Some-clause-found
returns-in-Some-clause-found g c =
    let old = state g.S.Store c.args.tx.now.conn.now in
    let mid = state g.S.Store c.find_domain_unit.new.tx.conn.now in
    let new = state g.S.Store c.places_of.new.tx.conn.now in
    let domain = c.args.domain.now in
    let lang = c.args.lang.now in
    let key = c.args.key.now in
    let found = c.in_ok-found.found in
    let rows = c.in_ok-places.places in
    let both = reads_both old mid new found (Ok rows) (ShowsDomainUnit c.as_str.result.now c.as_str-2.result.now c.as_str-3.result.now) (λ (db : Database) shown. ShowsPlaces c.as_str-4.result.now c.as_str-5.result.now c.as_str-6.result.now db shown.items)
    c.in_ok-found.ensures.found c.in_ok-places.ensures.found in
    read_told old new rows _ (λ (db : Database) shown. ShowsDomainUnit c.as_str.result.now c.as_str-2.result.now c.as_str-3.result.now db found × ShowsPlaces c.as_str-4.result.now c.as_str-5.result.now c.as_str-6.result.now db shown.items)
    (ShowsValues domain lang key) c.requires.steady
    (λ ready shown. values_shown old.now ready domain lang key c.key_fits.ensures.strings c.as_str.result.now c.as_str-2.result.now c.as_str-3.result.now c.as_str-4.result.now c.as_str-5.result.now c.as_str-6.result.now
    (search rules) (search rules) (search rules) (search rules) (search rules) (search rules) found rows.items shown c.in-Some.row c.values_of.result (search rules)
    (ap (λ (v : CountedValues). v.state) c.values_of.ensures ∙ ap (λ (n : UnitNumbers). n.state) (needed_is _ c.unit_numbers.result c.in_ok-numbers-in-Some.numbers c.in_ok-numbers-in-Some.ensures.value c.unit_numbers.ensures.shown))
    (ap (λ (v : CountedValues). v.obsolete) c.values_of.ensures ∙ ap (λ (n : UnitNumbers). n.obsolete) (needed_is _ c.unit_numbers.result c.in_ok-numbers-in-Some.numbers c.in_ok-numbers-in-Some.ensures.value c.unit_numbers.ensures.shown))
    (ap (λ (v : CountedValues). v.suggestions) c.values_of.ensures ∙ c.len.ensures ∙ rows.ok.0)) both

pub returns-clause-found : goal.returns-clause-found
returns-clause-found g c =
    let old = state g.S.Store c.args.tx.now.conn.now in
    let mid = state g.S.Store c.find_domain_unit.new.tx.conn.now in
    let new = state g.S.Store c.places_of.new.tx.conn.now in
    let domain = c.args.domain.now in
    let lang = c.args.lang.now in
    let key = c.args.key.now in
    let found = c.in_ok-found.found in
    let rows = c.in_ok-places.places in
    let both = reads_both old mid new found (Ok rows) (ShowsDomainUnit c.as_str.result.now c.as_str-2.result.now c.as_str-3.result.now) (λ (db : Database) shown. ShowsPlaces c.as_str-4.result.now c.as_str-5.result.now c.as_str-6.result.now db shown.items)
    c.in_ok-found.ensures.found c.in_ok-places.ensures.found in
    read_told old new rows _ (λ (db : Database) shown. ShowsDomainUnit c.as_str.result.now c.as_str-2.result.now c.as_str-3.result.now db found × ShowsPlaces c.as_str-4.result.now c.as_str-5.result.now c.as_str-6.result.now db shown.items)
    (ShowsValues domain lang key) c.requires.steady
    (λ ready shown. none_shown old.now ready domain lang key c.key_fits.ensures.strings c.as_str.result.now c.as_str-2.result.now c.as_str-3.result.now c.as_str-4.result.now c.as_str-5.result.now c.as_str-6.result.now
    (search rules) (search rules) (search rules) (search rules) (search rules) (search rules) found rows.items shown (search rules)) both

pub returns-in_err-text-clause-disk : goal.returns-in_err-text-clause-disk
returns-in_err-text-clause-disk g c =
    memory_told (state g.S.Store c.args.tx.now.conn.now) (state g.S.Store c.args.tx.now.conn.now) c.from_residual.result c.from_residual.ensures.1

pub returns-in_err-found-clause-disk : goal.returns-in_err-found-clause-disk
returns-in_err-found-clause-disk g c =
    error_told (state g.S.Store c.args.tx.now.conn.now) (state g.S.Store c.find_domain_unit.new.tx.conn.now) _ c.from_residual-in_err-found.result c.from_residual-in_err-found.ensures.1 c.in_err-found.ensures.disk

pub returns-in_err-places-clause-disk : goal.returns-in_err-places-clause-disk
returns-in_err-places-clause-disk g c =
    fails_behind (state g.S.Store c.args.tx.now.conn.now) (state g.S.Store c.find_domain_unit.new.tx.conn.now) (state g.S.Store c.places_of.new.tx.conn.now) (λ _. ⊥) (λ _. ⊥) c.from_residual-in_err-places.result c.in_ok-found.ensures.found.survives c.in_err-places.ensures.found.survives
    (error_told (state g.S.Store c.find_domain_unit.new.tx.conn.now) (state g.S.Store c.places_of.new.tx.conn.now) _ c.from_residual-in_err-places.result c.from_residual-in_err-places.ensures.1 c.in_err-places.ensures.disk)

pub returns-in_err-numbers-in-Some-clause-disk : goal.returns-in_err-numbers-in-Some-clause-disk
returns-in_err-numbers-in-Some-clause-disk g c =
    mild_told (state g.S.Store c.args.tx.now.conn.now) (state g.S.Store c.places_of.new.tx.conn.now) _ c.from_residual-in_err-numbers-in-Some.result c.from_residual-in_err-numbers-in-Some.ensures.1 c.in_err-numbers-in-Some.ensures.told
