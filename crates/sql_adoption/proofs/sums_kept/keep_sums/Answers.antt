use Rattle.std.proofs.lemmas.Result.{err_from_is_err_and}
use Rattle.sqlite.specs.Held.{state}
use Rattle.sql_schema.specs.Layouts.{rows_named}
use Rattle.sql_adoption.specs.SumsKept.{AreSummed, HaveOwnFew, HaveOwnSums, HaveToldFew, HaveToldSums, RefusesOwnSums, RefusesSums}
use Rattle.sql_adoption.specs.declared.faults.OpenFault.{OpenFault}
use Rattle.sql_layouts.proofs.Looked.{both_looked, idle_still, looked_failed}
use Rattle.sql_adoption.proofs.LooksBehind.{looked_clean, refused_behind}
use Rattle.sql_adoption.proofs.SummedRows.{own_refused, sums_told_so}
use Rattle.sql_adoption.proofs.OpensBlame.{fault_opens, opens_behind}
use Rattle.sql_adoption.proofs.sums_kept.keep_sums.Goals as goal

pub keep_own_sums-requires-clause-idle : goal.keep_own_sums-requires-clause-idle
keep_own_sums-requires-clause-idle g c = idle_still (state g.S.Store c.args.connection.now) (state g.S.Store c.keep_summed.new.connection) {E = OpenFault} _ _ c.requires.idle c.in_ok-keep_summed.ensures.found

pub keep_own_sums-requires-clause-is_open : goal.keep_own_sums-requires-clause-is_open
keep_own_sums-requires-clause-is_open g c = c.in_ok-keep_summed.ensures.found.is_open

pub returns-clause-found : goal.returns-clause-found
returns-clause-found g c =
    let a = state g.S.Store c.args.connection.now in
    let b = state g.S.Store c.keep_summed.new.connection in
    let e = state g.S.Store c.keep_own_sums.new.connection in
    looked_clean a e c.keep_own_sums.result (λ db _. AreSummed (rows_named db) × (HaveOwnFew (rows_named db) × HaveOwnSums (rows_named db))) (λ db _. HaveToldFew (rows_named db) × HaveToldSums (rows_named db))
    (λ early u it. sums_told_so a.now (c.requires.idle.ready early (c.requires.is_open early)) it.0 it.1)
    (both_looked a b e {E = OpenFault} _ c.keep_own_sums.result (λ db _. AreSummed (rows_named db)) (λ db _. HaveOwnFew (rows_named db) × HaveOwnSums (rows_named db)) c.in_ok-keep_summed.ensures.found c.keep_own_sums.ensures.found)

pub returns-clause-refused : goal.returns-clause-refused
returns-clause-refused g c =
    let a = state g.S.Store c.args.connection.now in
    refused_behind a (state g.S.Store c.keep_summed.new.connection) (state g.S.Store c.keep_own_sums.new.connection) _ c.keep_own_sums.result (λ db _. AreSummed (rows_named db))
    (λ db _. HaveOwnFew (rows_named db) × HaveOwnSums (rows_named db)) c.in_ok-keep_summed.ensures.found c.keep_own_sums.ensures.found (λ db fault. RefusesOwnSums (rows_named db) fault) (λ db fault. RefusesSums (rows_named db) fault)
    (λ early fault summed refused. own_refused a.now (c.requires.idle.ready early (c.requires.is_open early)) summed fault refused) c.keep_own_sums.ensures.refused

pub returns-in_err-keep_summed-clause-found : goal.returns-in_err-keep_summed-clause-found
returns-in_err-keep_summed-clause-found g c =
    looked_failed (state g.S.Store c.args.connection.now) (state g.S.Store c.keep_summed.new.connection) _ c.from_residual.result _ (λ db _. HaveToldFew (rows_named db) × HaveToldSums (rows_named db)) c.from_residual.ensures.0
    c.in_err-keep_summed.ensures.found

pub returns-in_err-keep_summed-clause-refused : goal.returns-in_err-keep_summed-clause-refused
returns-in_err-keep_summed-clause-refused g c =
    let p = err_from_is_err_and c.from_residual.result c.from_residual.ensures.1 in
    rw (p.1, p.2) c.in_err-keep_summed.ensures.refused

pub returns-in_err-keep_summed-clause-disk : goal.returns-in_err-keep_summed-clause-disk
returns-in_err-keep_summed-clause-disk g c = fault_opens (state g.S.Store c.args.connection.now) (state g.S.Store c.keep_summed.new.connection) _ c.from_residual.result c.from_residual.ensures.1 c.in_err-keep_summed.ensures.disk

pub returns-clause-disk : goal.returns-clause-disk
returns-clause-disk g c = opens_behind (state g.S.Store c.args.connection.now) (state g.S.Store c.keep_summed.new.connection) (state g.S.Store c.keep_own_sums.new.connection) _ _ c.keep_own_sums.result c.in_ok-keep_summed.ensures.found.survives c.keep_own_sums.ensures.found.survives c.keep_own_sums.ensures.disk
