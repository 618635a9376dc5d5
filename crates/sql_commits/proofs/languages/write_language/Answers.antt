use Rattle.std.specs.Prelude.{⊤}
use Rattle.std.proofs.Common.{Ok}
use Rattle.sqlite.specs.Held.{state}
use Rattle.sql_decoding.specs.declared.faults.Failure.{Failure}
use Rattle.sql_changes.specs.Commits.{PutsLanguage, WritesLanguage}
use Rattle.sql_changes.specs.OnDomains.{OnDomain}
use Rattle.sql_changes.specs.UnitWrites.{WritesUnits}
use Rattle.sql_changes.proofs.DomainWrites.{seen, on_domain_then, tally_on_domains}
use Rattle.sql_commits.specs.Figures.{PutsTally}
use Rattle.sql_commits.proofs.WritesInTurn.{write_then, unseen_last}
use Rattle.sql_figures.specs.Figures.{with_tally, FiguresFollow, FiguresStay}
use Rattle.sql_figures.proofs.FigureSteps.{stay_both, stay_first, follow_tally}
use Rattle.sql_laws.proofs.Transactions.{survives_both}
use Rattle.sql_decoding.proofs.DiskFailures.{fails_behind, failure_told}
use Rattle.sql_commits.proofs.languages.write_language.Goals as goal

-- its row, its units and their tally
pub returns-clause-put : goal.returns-clause-put
returns-clause-put g c =
    let old = state g.S.Store c.args.tx.now.conn.now in
    let mid = state g.S.Store c.put_language_of.new.tx.conn.now in
    let next = state g.S.Store c.write_units.new.tx.conn.now in
    let new = state g.S.Store c.put_tally_of.new.tx.conn.now in
    let lang = c.args.lang.now in
    let domain = c.args.domain.now in
    let Row = PutsLanguage lang c.args.header.now in
    let Units = WritesUnits lang c.args.units.now in
    let Whole = WritesLanguage lang c.args.header.now c.args.units.now in
    let written = write_then old mid next {F = Failure} c.in_ok-put_language_of.field-0 (Ok c.in_ok-write_units.field-0) (OnDomain domain Row) (OnDomain domain Units) (OnDomain domain Whole)
    (on_domain_then domain Row Units Whole (λ first second. (seen domain mid.now, first, second))) c.in_ok-put_language_of.ensures.put c.in_ok-write_units.ensures.put in
    write_then old next new c.in_ok-write_units.field-0 c.put_tally_of.result (OnDomain domain Whole) (PutsTally domain lang c.args.tally) (OnDomain domain Whole)
    (λ whole tallied. unseen_last domain Whole whole (tally_on_domains tallied)) written c.put_tally_of.ensures.put

-- it counts what the tally says
pub returns-clause-figures : goal.returns-clause-figures
returns-clause-figures g c =
    let old = state g.S.Store c.args.tx.now.conn.now in
    let mid = state g.S.Store c.put_language_of.new.tx.conn.now in
    let next = state g.S.Store c.write_units.new.tx.conn.now in
    let new = state g.S.Store c.put_tally_of.new.tx.conn.now in
    let domain = c.args.domain.now in
    let lang = c.args.lang.now in
    let tally = c.args.tally in
    let written = write_then old mid next {F = Failure} c.in_ok-put_language_of.field-0 (Ok c.in_ok-write_units.field-0) FiguresStay FiguresStay FiguresStay stay_both
    c.in_ok-put_language_of.ensures.figures c.in_ok-write_units.ensures.figures in
    write_then old next new c.in_ok-write_units.field-0 c.put_tally_of.result FiguresStay (PutsTally domain lang tally) (FiguresFollow (with_tally domain lang tally))
    (λ stays put. stay_first (λ counts. ⊤) (with_tally domain lang tally) stays (follow_tally domain lang tally put)) written c.put_tally_of.ensures.put

pub returns-in_err-put_language_of-clause-disk : goal.returns-in_err-put_language_of-clause-disk
returns-in_err-put_language_of-clause-disk g c =
    failure_told (state g.S.Store c.args.tx.now.conn.now) (state g.S.Store c.put_language_of.new.tx.conn.now) _ c.from_residual.result c.from_residual.ensures.1 c.in_err-put_language_of.ensures.disk

pub returns-in_err-write_units-clause-disk : goal.returns-in_err-write_units-clause-disk
returns-in_err-write_units-clause-disk g c =
    fails_behind (state g.S.Store c.args.tx.now.conn.now) (state g.S.Store c.put_language_of.new.tx.conn.now) (state g.S.Store c.write_units.new.tx.conn.now) (λ _. ⊥) (λ _. ⊥) c.from_residual-in_err-write_units.result c.in_ok-put_language_of.ensures.put.survives c.in_err-write_units.ensures.put.survives
    (failure_told (state g.S.Store c.put_language_of.new.tx.conn.now) (state g.S.Store c.write_units.new.tx.conn.now) _ c.from_residual-in_err-write_units.result c.from_residual-in_err-write_units.ensures.1 c.in_err-write_units.ensures.disk)

pub returns-clause-disk : goal.returns-clause-disk
returns-clause-disk g c =
    fails_behind (state g.S.Store c.args.tx.now.conn.now) (state g.S.Store c.write_units.new.tx.conn.now) (state g.S.Store c.put_tally_of.new.tx.conn.now) (λ _. ⊥) (λ _. ⊥) c.put_tally_of.result (survives_both g.S.Store c.args.tx.now.conn.now c.put_language_of.new.tx.conn.now c.write_units.new.tx.conn.now c.in_ok-put_language_of.ensures.put.survives c.in_ok-write_units.ensures.put.survives) c.put_tally_of.ensures.put.survives
    (c.put_tally_of.ensures.disk)
