use Rattle.std.proofs.Common.{◌≡◌, List, Bool, Ok, rules, subst}
use Rattle.sqlite.specs.Effect.{Database}
use Rattle.sqlite.specs.Held.{state}
use Rattle.sql_decoding.specs.declared.faults.Failure.{Failure}
use Rattle.sqlite.specs.Order.{Row}
use Rattle.sql_schema.specs.Inside.{Then, IsInsideOf}
use Rattle.sql_schema.specs.Layouts.{by_domain}
use Rattle.sql_schema.proofs.Sequences.{steady_read}
use Rattle.sql_changes.specs.EntryWrites.{PutsOthers, HoldsEntries}
use Rattle.sql_changes.specs.OnDomains.{OnDomain}
use Rattle.sql_changes.specs.UnitWrites.{LeavesRows}
use Rattle.sql_changes.proofs.DomainWrites.{seen, on_domain_then}
use Rattle.sql_commits.specs.Entries.{AreShown, TakesOthers}
use Rattle.sql_commits.proofs.EntriesShown.{change_told}
use Rattle.sql_commits.proofs.FiguresInTurn.{write_answered}
use Rattle.sql_commits.proofs.PlannedWrites.{leaves_rows}
use Rattle.sql_commits.proofs.WritesInTurn.{write_then, write_read, write_ready}
use Rattle.sql_figures.specs.Figures.{FiguresStay}
use Rattle.sql_figures.proofs.FigureSteps.{stay_both}
use Rattle.sql_laws.proofs.Transactions.{survives_both}
use Rattle.sql_decoding.proofs.DiskFailures.{error_told, fails_behind, failure_told, memory_told}
use Rattle.sql_commits.proofs.changed_entries.change_entries.Goals as goal

pub returns-clause-put : goal.returns-clause-put
returns-clause-put g c =
    let old = state g.S.Store c.args.tx.now.conn.now in
    let mid = state g.S.Store c.all_domain_entries.new.tx.conn.now in
    let gone = state g.S.Store c.take_others.new.tx.conn.now in
    let new = state g.S.Store c.put_others.new.tx.conn.now in
    let domain = c.args.domain.now in
    let entries = c.args.entries.now in
    let rows = c.in_ok-rows.rows in
    let stays = c.in_ok-stays.stays.items in
    let Gone = LeavesRows (TakesOthers stays rows.items) in
    let Puts = PutsOthers 0 stays entries in
    let Both = Then Gone Puts in
    let shown : AreShown rows.items stays entries = subst (λ (found : List Row). AreShown found stays entries) (search rules) c.in_ok-stays.ensures in
    let rows_are : c.deref-2.result.now ≡ rows.items = search rules in
    let marks_are : c.deref-3.result.now ≡ stays = search rules in
    let again : c.deref-4.result.now ≡ stays = search rules in
    let taken = leaves_rows mid gone {E = Failure} (Ok c.in_ok-take_others.field-0) domain (TakesOthers stays rows.items)
    (subst (λ (x : List Bool × List Row). IsInsideOf {E = Failure} by_domain mid gone (Ok c.in_ok-take_others.field-0) (OnDomain domain (TakesOthers x.0 x.1))) (λ i. (marks_are i, rows_are i)) c.in_ok-take_others.ensures.taken) in
    let put = subst (λ (marks : List Bool). IsInsideOf by_domain gone new c.put_others.result (OnDomain domain (PutsOthers 0 marks entries))) again c.put_others.ensures.put in
    let both = write_then mid gone new {F = Failure} c.in_ok-take_others.field-0 c.put_others.result (OnDomain domain Gone) (OnDomain domain Puts) (OnDomain domain Both)
    (on_domain_then domain Gone Puts Both (λ gone_rows puts. (seen domain gone.now, gone_rows, puts))) taken put in
    write_then old mid new {E = Failure} rows c.put_others.result _ _ (OnDomain domain (LeavesRows (HoldsEntries entries)))
    (change_told domain c.as_str.result.now rows.items stays entries old.now mid.now new.now (search rules) shown)
    (write_answered old mid {F = Failure} rows rows _ c.in_ok-rows.ensures.found) (write_ready mid new c.put_others.result (OnDomain domain Both) (steady_read old mid rows _ c.in_ok-rows.ensures.found) both)

pub returns-clause-figures : goal.returns-clause-figures
returns-clause-figures g c =
    let old = state g.S.Store c.args.tx.now.conn.now in
    let mid = state g.S.Store c.all_domain_entries.new.tx.conn.now in
    let gone = state g.S.Store c.take_others.new.tx.conn.now in
    let new = state g.S.Store c.put_others.new.tx.conn.now in
    let rows = c.in_ok-rows.rows in
    let taken = write_then old mid gone {E = Failure} {F = Failure} rows (Ok c.in_ok-take_others.field-0) (λ (before after : Database). after ≡ before) FiguresStay FiguresStay
    (λ same stays. subst (λ (db : Database). FiguresStay db gone.now) same stays) (write_read old mid {F = Failure} rows rows _ c.in_ok-rows.ensures.found) c.in_ok-take_others.ensures.figures in
    write_then old gone new {F = Failure} c.in_ok-take_others.field-0 c.put_others.result FiguresStay FiguresStay FiguresStay stay_both taken c.put_others.ensures.figures

pub returns-in_err-rows-clause-disk : goal.returns-in_err-rows-clause-disk
returns-in_err-rows-clause-disk g c =
    error_told (state g.S.Store c.args.tx.now.conn.now) (state g.S.Store c.all_domain_entries.new.tx.conn.now) _ c.from_residual.result c.from_residual.ensures.1 c.in_err-rows.ensures.disk

pub returns-in_err-stays-clause-disk : goal.returns-in_err-stays-clause-disk
returns-in_err-stays-clause-disk g c =
    memory_told (state g.S.Store c.args.tx.now.conn.now) (state g.S.Store c.all_domain_entries.new.tx.conn.now) c.from_residual-in_err-stays.result c.from_residual-in_err-stays.ensures.1

pub returns-in_err-take_others-clause-disk : goal.returns-in_err-take_others-clause-disk
returns-in_err-take_others-clause-disk g c =
    fails_behind (state g.S.Store c.args.tx.now.conn.now) (state g.S.Store c.all_domain_entries.new.tx.conn.now) (state g.S.Store c.take_others.new.tx.conn.now) (λ _. ⊥) (λ _. ⊥) c.from_residual-in_err-take_others.result c.in_ok-rows.ensures.found.survives c.in_err-take_others.ensures.taken.survives
    (failure_told (state g.S.Store c.all_domain_entries.new.tx.conn.now) (state g.S.Store c.take_others.new.tx.conn.now) _ c.from_residual-in_err-take_others.result c.from_residual-in_err-take_others.ensures.1 c.in_err-take_others.ensures.disk)

pub returns-clause-disk : goal.returns-clause-disk
returns-clause-disk g c =
    fails_behind (state g.S.Store c.args.tx.now.conn.now) (state g.S.Store c.take_others.new.tx.conn.now) (state g.S.Store c.put_others.new.tx.conn.now) (λ _. ⊥) (λ _. ⊥) c.put_others.result (survives_both g.S.Store c.args.tx.now.conn.now c.all_domain_entries.new.tx.conn.now c.take_others.new.tx.conn.now c.in_ok-rows.ensures.found.survives c.in_ok-take_others.ensures.taken.survives) c.put_others.ensures.put.survives
    (c.put_others.ensures.disk)
