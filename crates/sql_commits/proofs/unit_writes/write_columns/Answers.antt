use Rattle.std.proofs.Common.{rules, Ok}
use Rattle.sqlite.specs.Held.{state}
use Rattle.sql_schema.specs.Inside.{Then, AreOfficeTablesOf}
use Rattle.sql_schema.specs.Layouts.{by_domain}
use Rattle.sql_statements.specs.DomainCleared.{ClearsDomainUnit}
use Rattle.sql_meaning.specs.RowChanges.{ClearsIn}
use Rattle.sql_changes.specs.OnDomains.{OnDomain}
use Rattle.sql_changes.specs.UnitWrites.{AddsNumberedSuggestions, PutsUnitRow, WritesNumberedUnit}
use Rattle.sql_changes.proofs.DomainWrites.{seen, on_domain_then, cleared_on_domain}
use Rattle.sql_commits.proofs.WritesInTurn.{write_then, write_told, write_over, write_ready, writes_numbered_unit}
use Rattle.sqlite.specs.Effect.{Database}
use Rattle.sql_decoding.specs.declared.faults.Failure.{Failure}
use Rattle.sql_schema.proofs.Sequences.{steady_write}
use Rattle.sql_figures.specs.Figures.{FiguresStay}
use Rattle.sql_figures.proofs.FigureSteps.{stay_both, stay_cleared}
use Rattle.sql_laws.proofs.Transactions.{survives_both}
use Rattle.sql_decoding.proofs.DiskFailures.{error_told, fails_behind, failure_told}
use Rattle.sql_commits.proofs.unit_writes.write_columns.Goals as goal

-- its row is put, its suggestions go, and those that it has come
pub returns-clause-put : goal.returns-clause-put
returns-clause-put g c =
    let old = state g.S.Store c.args.tx.now.conn.now in
    let mid = state g.S.Store c.put_row.new.tx.conn.now in
    let next = state g.S.Store c.clear_domain_suggestions.new.tx.conn.now in
    let new = state g.S.Store c.add_suggestions.new.tx.conn.now in
    let domain = c.args.domain.now in
    let lang = c.args.lang.now in
    let unit = c.args.unit.now in
    let key = c.as_str.result.now in
    let Row = PutsUnitRow lang unit in
    let All = AddsNumberedSuggestions lang c.as_str-2.result.now c.as_slice.result.now in
    let Rest = Then (ClearsIn lang key) All in
    let row = c.in_ok-put_row.ensures.put in
    let steady = steady_write old mid c.in_ok-put_row.field-0 (OnDomain domain Row) row in
    let cleared = write_over mid next (Ok c.in_ok-clear_domain_suggestions.field-0) (ClearsDomainUnit domain lang key) (OnDomain domain (ClearsIn lang key)) steady (λ ready after gone. cleared_on_domain ready gone)
    c.in_ok-clear_domain_suggestions.ensures.cleared in
    let rest = write_then mid next new c.in_ok-clear_domain_suggestions.field-0 c.add_suggestions.result (OnDomain domain (ClearsIn lang key)) (OnDomain domain All) (OnDomain domain Rest)
    (on_domain_then domain (ClearsIn lang key) All Rest (λ gone put. (seen domain next.now, gone, put))) cleared c.add_suggestions.ensures.put in
    write_then old mid new c.in_ok-put_row.field-0 c.add_suggestions.result (OnDomain domain Row) (OnDomain domain Rest) (OnDomain domain (WritesNumberedUnit lang unit))
    (on_domain_then domain Row Rest (WritesNumberedUnit lang unit)
    (writes_numbered_unit lang key c.as_str-2.result.now unit c.as_slice.result.now (seen domain old.now) (seen domain mid.now) (seen domain new.now) (search rules) (search rules) (search rules)))
    row rest

-- the suggestions that go take their sums with them, and those that come have theirs
pub returns-clause-figures : goal.returns-clause-figures
returns-clause-figures g c =
    let old = state g.S.Store c.args.tx.now.conn.now in
    let mid = state g.S.Store c.put_row.new.tx.conn.now in
    let next = state g.S.Store c.clear_domain_suggestions.new.tx.conn.now in
    let new = state g.S.Store c.add_suggestions.new.tx.conn.now in
    let domain = c.args.domain.now in
    let lang = c.args.lang.now in
    let key = c.as_str.result.now in
    let Clears = ClearsDomainUnit domain lang key in
    let Ready = λ (before after : Database). AreOfficeTablesOf by_domain before × Clears before after in
    let steady = steady_write old mid c.in_ok-put_row.field-0 FiguresStay c.in_ok-put_row.ensures.figures in
    let cleared = write_ready mid next (Ok c.in_ok-clear_domain_suggestions.field-0) Clears steady c.in_ok-clear_domain_suggestions.ensures.cleared in
    let gone = write_then old mid next {F = Failure} c.in_ok-put_row.field-0 (Ok c.in_ok-clear_domain_suggestions.field-0) FiguresStay Ready FiguresStay
    (λ stays it. stay_both stays (stay_cleared domain lang key it.0 it.1)) c.in_ok-put_row.ensures.figures (write_told mid next {F = Failure} c.in_ok-clear_domain_suggestions.field-0 c.in_ok-clear_domain_suggestions.field-0 Ready Ready (λ made. made) cleared) in
    write_then old next new c.in_ok-clear_domain_suggestions.field-0 c.add_suggestions.result FiguresStay FiguresStay FiguresStay stay_both gone c.add_suggestions.ensures.figures

pub returns-in_err-put_row-clause-disk : goal.returns-in_err-put_row-clause-disk
returns-in_err-put_row-clause-disk g c =
    failure_told (state g.S.Store c.args.tx.now.conn.now) (state g.S.Store c.put_row.new.tx.conn.now) _ c.from_residual.result c.from_residual.ensures.1 c.in_err-put_row.ensures.disk

pub returns-in_err-clear_domain_suggestions-clause-disk : goal.returns-in_err-clear_domain_suggestions-clause-disk
returns-in_err-clear_domain_suggestions-clause-disk g c =
    fails_behind (state g.S.Store c.args.tx.now.conn.now) (state g.S.Store c.put_row.new.tx.conn.now) (state g.S.Store c.clear_domain_suggestions.new.tx.conn.now) (λ _. ⊥) (λ _. ⊥) c.from_residual-in_err-clear_domain_suggestions.result c.in_ok-put_row.ensures.put.survives c.in_err-clear_domain_suggestions.ensures.cleared.survives
    (error_told (state g.S.Store c.put_row.new.tx.conn.now) (state g.S.Store c.clear_domain_suggestions.new.tx.conn.now) _ c.from_residual-in_err-clear_domain_suggestions.result c.from_residual-in_err-clear_domain_suggestions.ensures.1 c.in_err-clear_domain_suggestions.ensures.disk)

pub returns-clause-disk : goal.returns-clause-disk
returns-clause-disk g c =
    fails_behind (state g.S.Store c.args.tx.now.conn.now) (state g.S.Store c.clear_domain_suggestions.new.tx.conn.now) (state g.S.Store c.add_suggestions.new.tx.conn.now) (λ _. ⊥) (λ _. ⊥) c.add_suggestions.result (survives_both g.S.Store c.args.tx.now.conn.now c.put_row.new.tx.conn.now c.clear_domain_suggestions.new.tx.conn.now c.in_ok-put_row.ensures.put.survives c.in_ok-clear_domain_suggestions.ensures.cleared.survives) c.add_suggestions.ensures.put.survives
    (c.add_suggestions.ensures.disk)
