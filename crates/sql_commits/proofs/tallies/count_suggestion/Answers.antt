use Rattle.std.proofs.Common.{◌≡◌, Ok, rules, ap, sym, subst}
use Rattle.sqlite.specs.Effect.{Database}
use Rattle.sqlite.specs.Held.{state}
use Rattle.office_specification.specs.declared.tally.Tally.{Tally}
use Rattle.sql_decoding.specs.declared.faults.Failure.{Failure}
use Rattle.sql_decoding.specs.declared.units_read.UnitNumbers.{UnitNumbers}
use Rattle.sql_schema.specs.Inside.{AreOfficeTablesOf}
use Rattle.sql_schema.specs.Layouts.{by_domain}
use Rattle.sql_changes.specs.OnDomains.{SparesDomains}
use Rattle.sql_changes.proofs.DomainWrites.{nothing_made}
use Rattle.sql_statements.specs.DomainAnswers.{ShowsDomainUnit}
use Rattle.sql_commits.proofs.WritesInTurn.{write_read, write_then, write_told, write_ready}
use Rattle.sql_commits.specs.Figures.{FollowsOneMore}
use Rattle.sql_figures.specs.Figures.{moved_at, FiguresFollow}
use Rattle.sql_commits.proofs.FiguresInTurn.{write_answered}
use Rattle.sql_commits.proofs.TalliesMoved.{suggested, unit_looked_up, one_more_moved, no_more_moved}
use Rattle.sql_decoding.proofs.DiskFailures.{error_told, fails_behind, memory_told, mild_told, needed_is}
use Rattle.sql_commits.proofs.tallies.count_suggestion.Goals as goal

pub returns-in-Some-clause-spares : goal.returns-in-Some-clause-spares
returns-in-Some-clause-spares g c =
    let old = state g.S.Store c.args.tx.now.conn.now in
    let mid = state g.S.Store c.find_domain_unit.new.tx.conn.now in
    let new = state g.S.Store c.put_difference.new.tx.conn.now in
    let found = c.in_ok-found.found in
    let read = write_read old mid {F = Failure} found found (ShowsDomainUnit c.as_str.result.now c.as_str-2.result.now c.as_str-3.result.now) c.in_ok-found.ensures.found in
    write_then old mid new found c.put_difference.result (λ (before after : Database). after ≡ before) SparesDomains SparesDomains (λ same put. subst (λ db. SparesDomains db new.now) same put) read c.put_difference.ensures.spares

pub returns-in-Some-clause-figures : goal.returns-in-Some-clause-figures
returns-in-Some-clause-figures g c =
    let old = state g.S.Store c.args.tx.now.conn.now in
    let mid = state g.S.Store c.find_domain_unit.new.tx.conn.now in
    let new = state g.S.Store c.put_difference.new.tx.conn.now in
    let domain = c.args.domain.now in
    let lang = c.args.lang.now in
    let key = c.args.key.now in
    let strings = c.key_fits.ensures.strings in
    let found = c.in_ok-found.found in
    let one = c.one_suggestion.result in
    let Shown = λ (before after : Database). (after ≡ before) × ShowsDomainUnit c.as_str.result.now c.as_str-2.result.now c.as_str-3.result.now before found in
    let Ready = λ (before after : Database). AreOfficeTablesOf by_domain before × Shown before after in
    let read = write_ready old mid (Ok found) Shown c.requires.steady
    (write_answered old mid {F = Failure} found found (ShowsDomainUnit c.as_str.result.now c.as_str-2.result.now c.as_str-3.result.now) c.in_ok-found.ensures.found) in
    write_then old mid new found c.put_difference.result Ready (FiguresFollow (moved_at domain lang c.none.result one)) (FollowsOneMore domain lang key)
    (λ shown moved.
    one_more_moved domain lang key old.now mid.now found (suggested old.now shown.0 domain lang key strings)
    (shown.1.0, unit_looked_up old.now shown.0 domain lang key strings c.as_str.result.now c.as_str-2.result.now c.as_str-3.result.now found (search rules) (search rules) (search rules) shown.1.1)
    c.in-Some.row c.in_ok-numbers-in-Some.numbers.obsolete one new.now (search rules) (ap (λ (n : UnitNumbers). n.obsolete) (needed_is _ c.unit_numbers.result c.in_ok-numbers-in-Some.numbers c.in_ok-numbers-in-Some.ensures.value c.unit_numbers.ensures.shown)) c.one_suggestion.ensures
    (subst (λ (t : Tally). FiguresFollow (moved_at domain lang t one) mid.now new.now) c.none.ensures moved)) read c.put_difference.ensures.figures

-- where there is no unit, nothing is written
pub returns-clause-spares : goal.returns-clause-spares
returns-clause-spares g c =
    let old = state g.S.Store c.args.tx.now.conn.now in
    let mid = state g.S.Store c.find_domain_unit.new.tx.conn.now in
    let found = c.in_ok-found.found in
    let read = write_read old mid {F = Failure} found found (ShowsDomainUnit c.as_str.result.now c.as_str-2.result.now c.as_str-3.result.now) c.in_ok-found.ensures.found in
    write_told old mid found _ (λ (before after : Database). after ≡ before) SparesDomains (λ same. subst (SparesDomains old.now) (sym same) (nothing_made old.now)) read

pub returns-clause-figures : goal.returns-clause-figures
returns-clause-figures g c =
    let old = state g.S.Store c.args.tx.now.conn.now in
    let mid = state g.S.Store c.find_domain_unit.new.tx.conn.now in
    let domain = c.args.domain.now in
    let lang = c.args.lang.now in
    let key = c.args.key.now in
    let strings = c.key_fits.ensures.strings in
    let found = c.in_ok-found.found in
    let Shown = λ (before after : Database). (after ≡ before) × ShowsDomainUnit c.as_str.result.now c.as_str-2.result.now c.as_str-3.result.now before found in
    let Ready = λ (before after : Database). AreOfficeTablesOf by_domain before × Shown before after in
    let read = write_ready old mid (Ok found) Shown c.requires.steady
    (write_answered old mid {F = Failure} found found (ShowsDomainUnit c.as_str.result.now c.as_str-2.result.now c.as_str-3.result.now) c.in_ok-found.ensures.found) in
    write_told old mid found _ Ready (FollowsOneMore domain lang key)
    (λ shown. no_more_moved domain lang key old.now mid.now found (suggested old.now shown.0 domain lang key strings)
    (shown.1.0, unit_looked_up old.now shown.0 domain lang key strings c.as_str.result.now c.as_str-2.result.now c.as_str-3.result.now found (search rules) (search rules) (search rules) shown.1.1) (search rules)) read

pub returns-in_err-text-clause-disk : goal.returns-in_err-text-clause-disk
returns-in_err-text-clause-disk g c =
    memory_told (state g.S.Store c.args.tx.now.conn.now) (state g.S.Store c.args.tx.now.conn.now) c.from_residual.result c.from_residual.ensures.1

pub returns-in_err-found-clause-disk : goal.returns-in_err-found-clause-disk
returns-in_err-found-clause-disk g c =
    error_told (state g.S.Store c.args.tx.now.conn.now) (state g.S.Store c.find_domain_unit.new.tx.conn.now) _ c.from_residual-in_err-found.result c.from_residual-in_err-found.ensures.1 c.in_err-found.ensures.disk

pub returns-in_err-numbers-in-Some-clause-disk : goal.returns-in_err-numbers-in-Some-clause-disk
returns-in_err-numbers-in-Some-clause-disk g c =
    mild_told (state g.S.Store c.args.tx.now.conn.now) (state g.S.Store c.find_domain_unit.new.tx.conn.now) _ c.from_residual-in_err-numbers-in-Some.result c.from_residual-in_err-numbers-in-Some.ensures.1 c.in_err-numbers-in-Some.ensures.told

pub returns-in-Some-clause-disk : goal.returns-in-Some-clause-disk
returns-in-Some-clause-disk g c =
    fails_behind (state g.S.Store c.args.tx.now.conn.now) (state g.S.Store c.find_domain_unit.new.tx.conn.now) (state g.S.Store c.put_difference.new.tx.conn.now) (λ _. ⊥) (λ _. ⊥) c.put_difference.result c.in_ok-found.ensures.found.survives c.put_difference.ensures.spares.survives
    (c.put_difference.ensures.disk)
