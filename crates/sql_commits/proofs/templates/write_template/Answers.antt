use Rattle.std.specs.Prelude.{⊤}
use Rattle.std.proofs.Common.{Ok}
use Rattle.sqlite.specs.Held.{state}
use Rattle.sql_decoding.specs.declared.faults.Failure.{Failure}
use Rattle.sql_changes.specs.Commits.{PutsTemplate, WritesTemplate}
use Rattle.sql_changes.specs.OnDomains.{OnDomain, SparesDomains}
use Rattle.sql_changes.specs.UnitWrites.{WritesPlansBack}
use Rattle.sql_changes.proofs.DomainWrites.{seen, on_domain_then}
use Rattle.sql_commits.proofs.WritesInTurn.{write_then, unseen_last}
use Rattle.sql_figures.specs.Figures.{with_tallies, FiguresFollow, FiguresStay}
use Rattle.sql_figures.proofs.FigureSteps.{stay_both, stay_first}
use Rattle.sql_laws.proofs.Transactions.{survives_both}
use Rattle.sql_decoding.proofs.DiskFailures.{fails_behind, failure_told}
use Rattle.sql_commits.proofs.templates.write_template.Goals as goal

pub returns-clause-put : goal.returns-clause-put
returns-clause-put g c =
    let old = state g.S.Store c.args.tx.now.conn.now in
    let put = state g.S.Store c.change_entries.new.tx.conn.now in
    let next = state g.S.Store c.write_plans_back.new.tx.conn.now in
    let new = state g.S.Store c.put_tallies.new.tx.conn.now in
    let domain = c.args.domain.now in
    let Template = PutsTemplate c.args.entries.now in
    let Plans = WritesPlansBack c.args.plans.now in
    let Whole = WritesTemplate c.args.entries.now c.args.plans.now in
    let written = write_then old put next {F = Failure} c.in_ok-change_entries.field-0 (Ok c.in_ok-write_plans_back.field-0) (OnDomain domain Template) (OnDomain domain Plans) (OnDomain domain Whole)
    (on_domain_then domain Template Plans Whole (λ template units. (seen domain put.now, template, units))) c.in_ok-change_entries.ensures.put c.in_ok-write_plans_back.ensures.put in
    write_then old next new c.in_ok-write_plans_back.field-0 c.put_tallies.result (OnDomain domain Whole) SparesDomains (OnDomain domain Whole) (unseen_last domain Whole) written c.put_tallies.ensures.spares

-- its languages count what the tallies say
pub returns-clause-figures : goal.returns-clause-figures
returns-clause-figures g c =
    let old = state g.S.Store c.args.tx.now.conn.now in
    let put = state g.S.Store c.change_entries.new.tx.conn.now in
    let next = state g.S.Store c.write_plans_back.new.tx.conn.now in
    let new = state g.S.Store c.put_tallies.new.tx.conn.now in
    let Tallied = FiguresFollow (with_tallies c.args.domain.now c.args.tallies.now) in
    let units = write_then old put next {F = Failure} c.in_ok-change_entries.field-0 (Ok c.in_ok-write_plans_back.field-0) FiguresStay FiguresStay FiguresStay stay_both c.in_ok-change_entries.ensures.figures c.in_ok-write_plans_back.ensures.figures in
    write_then old next new c.in_ok-write_plans_back.field-0 c.put_tallies.result FiguresStay Tallied Tallied (stay_first (λ counts. ⊤) (with_tallies c.args.domain.now c.args.tallies.now)) units c.put_tallies.ensures.figures

pub returns-in_err-change_entries-clause-disk : goal.returns-in_err-change_entries-clause-disk
returns-in_err-change_entries-clause-disk g c =
    failure_told (state g.S.Store c.args.tx.now.conn.now) (state g.S.Store c.change_entries.new.tx.conn.now) _ c.from_residual.result c.from_residual.ensures.1 c.in_err-change_entries.ensures.disk

pub returns-in_err-write_plans_back-clause-disk : goal.returns-in_err-write_plans_back-clause-disk
returns-in_err-write_plans_back-clause-disk g c =
    fails_behind (state g.S.Store c.args.tx.now.conn.now) (state g.S.Store c.change_entries.new.tx.conn.now) (state g.S.Store c.write_plans_back.new.tx.conn.now) (λ _. ⊥) (λ _. ⊥) c.from_residual-in_err-write_plans_back.result c.in_ok-change_entries.ensures.put.survives c.in_err-write_plans_back.ensures.put.survives
    (failure_told (state g.S.Store c.change_entries.new.tx.conn.now) (state g.S.Store c.write_plans_back.new.tx.conn.now) _ c.from_residual-in_err-write_plans_back.result c.from_residual-in_err-write_plans_back.ensures.1 c.in_err-write_plans_back.ensures.disk)

pub returns-clause-disk : goal.returns-clause-disk
returns-clause-disk g c =
    fails_behind (state g.S.Store c.args.tx.now.conn.now) (state g.S.Store c.write_plans_back.new.tx.conn.now) (state g.S.Store c.put_tallies.new.tx.conn.now) (λ _. ⊥) (λ _. ⊥) c.put_tallies.result (survives_both g.S.Store c.args.tx.now.conn.now c.change_entries.new.tx.conn.now c.write_plans_back.new.tx.conn.now c.in_ok-change_entries.ensures.put.survives c.in_ok-write_plans_back.ensures.put.survives) c.put_tallies.ensures.spares.survives
    (c.put_tallies.ensures.disk)
