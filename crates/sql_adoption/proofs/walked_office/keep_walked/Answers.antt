use Rattle.std.proofs.Common.{◌≡◌, List, Ok, Err, Vec, Global, true, subst, rules}
use Rattle.std.proofs.lemmas.Result.{err_from_is_err_and}
use Rattle.sqlite.specs.Effect.{Database}
use Rattle.sqlite.specs.Held.{state}
use Rattle.sql_schema.specs.Layouts.{rows_named}
use Rattle.sql_schema.specs.Whole.{IsLookUp}
use Rattle.sql_adoption.specs.Reading.{KeepsRecords, RefusesRecords}
use Rattle.sql_adoption.specs.SumsKept.{HaveToldFew, HaveToldSums, RefusesSums}
use Rattle.sql_adoption.specs.WalkedOffice.{AreTold, AreUnitsIn, RefusesCounted}
use Rattle.sql_adoption.specs.declared.faults.OpenFault.{OpenFault}
use Rattle.sql_adoption.specs.declared.language_tallies.Counted.{Counted}
use Rattle.sql_layouts.proofs.Looked.{both_looked, idle_still, looked_failed}
use Rattle.sql_adoption.proofs.AdoptedByWalks.{adopts, Adopts, refuses_counted, refuses_records, refuses_sums, refuses_units, RefusesBehind, WithRecords, WithSums}
use Rattle.sql_adoption.proofs.LooksBehind.{early_of, looked_clean, refused_behind}
use Rattle.sql_adoption.proofs.OpensBlame.{after_both, fault_opens, opens_behind}
use Rattle.sql_adoption.proofs.walked_office.keep_walked.Goals as goal

abbrev Sums : Database → Unit {0} → Type 0
Sums db _ = HaveToldFew (rows_named db) × HaveToldSums (rows_named db)

pub keep_records-requires-clause-idle : goal.keep_records-requires-clause-idle
keep_records-requires-clause-idle g c = idle_still (state g.S.Store c.args.connection.now) (state g.S.Store c.keep_units.new.connection) {E = OpenFault} _ _ c.requires.idle c.in_ok-counted.ensures.found

pub keep_records-requires-clause-is_open : goal.keep_records-requires-clause-is_open
keep_records-requires-clause-is_open g c = c.in_ok-counted.ensures.found.is_open

pub keep_sums-requires-clause-idle : goal.keep_sums-requires-clause-idle
keep_sums-requires-clause-idle g c =
    let b = state g.S.Store c.keep_units.new.connection in
    idle_still b (state g.S.Store c.keep_records.new.connection) {E = OpenFault} _ _ (idle_still (state g.S.Store c.args.connection.now) b {E = OpenFault} _ _ c.requires.idle c.in_ok-counted.ensures.found) c.in_ok-keep_records.ensures.found

pub keep_sums-requires-clause-is_open : goal.keep_sums-requires-clause-is_open
keep_sums-requires-clause-is_open g c = c.in_ok-keep_records.ensures.found.is_open

pub keep_counted-requires-clause-idle : goal.keep_counted-requires-clause-idle
keep_counted-requires-clause-idle g c =
    let b = state g.S.Store c.keep_units.new.connection in
    let d = state g.S.Store c.keep_records.new.connection in
    idle_still d (state g.S.Store c.keep_sums.new.connection) {E = OpenFault} _ _
    (idle_still b d {E = OpenFault} _ _ (idle_still (state g.S.Store c.args.connection.now) b {E = OpenFault} _ _ c.requires.idle c.in_ok-counted.ensures.found) c.in_ok-keep_records.ensures.found) c.in_ok-keep_sums.ensures.found

pub returns-clause-found : goal.returns-clause-found
returns-clause-found g c =
    let a = state g.S.Store c.args.connection.now in
    let b = state g.S.Store c.keep_units.new.connection in
    let d = state g.S.Store c.keep_records.new.connection in
    let e = state g.S.Store c.keep_sums.new.connection in
    let f = state g.S.Store c.keep_counted.new.connection in
    let frame = c.args.frame.now in
    let counted = c.in_ok-counted.counted in
    let same : c.as_slice.result.now ≡ counted.items = search rules in
    let tallies = subst (λ (l : List Counted). IsLookUp e f c.keep_counted.result (λ db _. AreTold l true db)) same c.keep_counted.ensures.found in
    let records = both_looked a b d {E = OpenFault} counted (Ok _) (λ db (v : Vec Counted Global). AreUnitsIn db frame v.items) (λ db _. KeepsRecords db) c.in_ok-counted.ensures.found c.in_ok-keep_records.ensures.found in
    let sums = both_looked a d e {E = OpenFault} _ (Ok _) (λ db _. WithRecords frame c.requires.holds counted.items db) Sums records c.in_ok-keep_sums.ensures.found in
    looked_clean a f c.keep_counted.result (λ db _. WithSums frame c.requires.holds counted.items db × AreTold counted.items true db) (λ db _. Adopts frame c.requires.holds db)
    (λ early u it. adopts frame c.requires.holds a.now (c.requires.idle.ready early (c.requires.is_open early)) c.requires.few counted.items it)
    (both_looked a e f {E = OpenFault} _ c.keep_counted.result (λ db _. WithSums frame c.requires.holds counted.items db) (λ db _. AreTold counted.items true db) sums tallies)

pub returns-clause-refused : goal.returns-clause-refused
returns-clause-refused g c =
    let a = state g.S.Store c.args.connection.now in
    let b = state g.S.Store c.keep_units.new.connection in
    let d = state g.S.Store c.keep_records.new.connection in
    let e = state g.S.Store c.keep_sums.new.connection in
    let f = state g.S.Store c.keep_counted.new.connection in
    let frame = c.args.frame.now in
    let counted = c.in_ok-counted.counted in
    let listed = c.as_slice.result.now in
    let same : listed ≡ counted.items = search rules in
    let records = both_looked a b d {E = OpenFault} counted (Ok _) (λ db (v : Vec Counted Global). AreUnitsIn db frame v.items) (λ db _. KeepsRecords db) c.in_ok-counted.ensures.found c.in_ok-keep_records.ensures.found in
    let sums = both_looked a d e {E = OpenFault} _ (Ok _) (λ db _. WithRecords frame c.requires.holds counted.items db) Sums records c.in_ok-keep_sums.ensures.found in
    refused_behind a e f _ c.keep_counted.result (λ db _. WithSums frame c.requires.holds counted.items db) (λ db _. AreTold listed true db) sums c.keep_counted.ensures.found (λ db fault. RefusesCounted listed db fault)
    (RefusesBehind frame c.requires.holds)
    (λ early fault it refused. refuses_counted frame c.requires.holds a.now (c.requires.idle.ready early (c.requires.is_open early)) c.requires.few counted.items it fault
    (subst (λ (l : List Counted). RefusesCounted l a.now fault) same refused)) c.keep_counted.ensures.refused

pub returns-in_err-counted-clause-found : goal.returns-in_err-counted-clause-found
returns-in_err-counted-clause-found g c =
    looked_failed (state g.S.Store c.args.connection.now) (state g.S.Store c.keep_units.new.connection) _ c.from_residual.result _ (λ db _. Adopts c.args.frame.now c.requires.holds db) c.from_residual.ensures.0 c.in_err-counted.ensures.found

pub returns-in_err-counted-clause-refused : goal.returns-in_err-counted-clause-refused
returns-in_err-counted-clause-refused g c =
    let p = err_from_is_err_and c.from_residual.result c.from_residual.ensures.1 in
    let a = state g.S.Store c.args.connection.now in
    rw (p.1, p.2) (λ clean is.
    let early = early_of a (state g.S.Store c.keep_units.new.connection) _ _ c.in_err-counted.ensures.found clean in
    refuses_units c.args.frame.now c.requires.holds a.now (c.requires.idle.ready early (c.requires.is_open early)) c.in_err-counted.field-0.0 (c.in_err-counted.ensures.refused clean) is)

pub returns-in_err-keep_records-clause-found : goal.returns-in_err-keep_records-clause-found
returns-in_err-keep_records-clause-found g c =
    let a = state g.S.Store c.args.connection.now in
    let d = state g.S.Store c.keep_records.new.connection in
    let frame = c.args.frame.now in
    looked_failed a d (Err c.in_err-keep_records.field-0.0) c.from_residual-in_err-keep_records.result _ (λ db _. Adopts frame c.requires.holds db) c.from_residual-in_err-keep_records.ensures.0
    (both_looked a (state g.S.Store c.keep_units.new.connection) d {E = OpenFault} c.in_ok-counted.counted (Err c.in_err-keep_records.field-0.0) (λ db (v : Vec Counted Global). AreUnitsIn db frame v.items) (λ db (u : Unit {0}). KeepsRecords db)
    c.in_ok-counted.ensures.found c.in_err-keep_records.ensures.found)

pub returns-in_err-keep_records-clause-refused : goal.returns-in_err-keep_records-clause-refused
returns-in_err-keep_records-clause-refused g c =
    let p = err_from_is_err_and c.from_residual-in_err-keep_records.result c.from_residual-in_err-keep_records.ensures.1 in
    let a = state g.S.Store c.args.connection.now in
    let frame = c.args.frame.now in
    let counted = c.in_ok-counted.counted in
    rw (p.1, p.2) (refused_behind a (state g.S.Store c.keep_units.new.connection) (state g.S.Store c.keep_records.new.connection) counted (Err c.in_err-keep_records.field-0.0)
    (λ db (v : Vec Counted Global). AreUnitsIn db frame v.items) (λ db (u : Unit {0}). KeepsRecords db) c.in_ok-counted.ensures.found c.in_err-keep_records.ensures.found (λ db fault. RefusesRecords db fault) (RefusesBehind frame c.requires.holds)
    (λ early fault units refused. refuses_records frame c.requires.holds a.now (c.requires.idle.ready early (c.requires.is_open early)) c.requires.few counted.items units fault refused) c.in_err-keep_records.ensures.refused)

pub returns-in_err-keep_sums-clause-found : goal.returns-in_err-keep_sums-clause-found
returns-in_err-keep_sums-clause-found g c =
    let a = state g.S.Store c.args.connection.now in
    let d = state g.S.Store c.keep_records.new.connection in
    let e = state g.S.Store c.keep_sums.new.connection in
    let frame = c.args.frame.now in
    let counted = c.in_ok-counted.counted in
    looked_failed a e (Err c.in_err-keep_sums.field-0.0) c.from_residual-in_err-keep_sums.result _ (λ db _. Adopts frame c.requires.holds db) c.from_residual-in_err-keep_sums.ensures.0
    (both_looked a d e {E = OpenFault} _ (Err c.in_err-keep_sums.field-0.0) (λ db _. WithRecords frame c.requires.holds counted.items db) Sums
    (both_looked a (state g.S.Store c.keep_units.new.connection) d {E = OpenFault} counted (Ok _) (λ db (v : Vec Counted Global). AreUnitsIn db frame v.items) (λ db _. KeepsRecords db) c.in_ok-counted.ensures.found
    c.in_ok-keep_records.ensures.found) c.in_err-keep_sums.ensures.found)

pub returns-in_err-keep_sums-clause-refused : goal.returns-in_err-keep_sums-clause-refused
returns-in_err-keep_sums-clause-refused g c =
    let p = err_from_is_err_and c.from_residual-in_err-keep_sums.result c.from_residual-in_err-keep_sums.ensures.1 in
    let a = state g.S.Store c.args.connection.now in
    let d = state g.S.Store c.keep_records.new.connection in
    let e = state g.S.Store c.keep_sums.new.connection in
    let frame = c.args.frame.now in
    let counted = c.in_ok-counted.counted in
    rw (p.1, p.2) (refused_behind a d e _ (Err c.in_err-keep_sums.field-0.0) (λ db _. WithRecords frame c.requires.holds counted.items db) Sums
    (both_looked a (state g.S.Store c.keep_units.new.connection) d {E = OpenFault} counted (Ok _) (λ db (v : Vec Counted Global). AreUnitsIn db frame v.items) (λ db _. KeepsRecords db) c.in_ok-counted.ensures.found
    c.in_ok-keep_records.ensures.found) c.in_err-keep_sums.ensures.found (λ db fault. RefusesSums (rows_named db) fault) (RefusesBehind frame c.requires.holds)
    (λ early fault it refused. refuses_sums frame c.requires.holds a.now (c.requires.idle.ready early (c.requires.is_open early)) c.requires.few counted.items it fault refused) c.in_err-keep_sums.ensures.refused)

pub returns-in_err-counted-clause-disk : goal.returns-in_err-counted-clause-disk
returns-in_err-counted-clause-disk g c = fault_opens (state g.S.Store c.args.connection.now) (state g.S.Store c.keep_units.new.connection) _ c.from_residual.result c.from_residual.ensures.1 c.in_err-counted.ensures.disk

pub returns-in_err-keep_records-clause-disk : goal.returns-in_err-keep_records-clause-disk
returns-in_err-keep_records-clause-disk g c =
    let b = state g.S.Store c.keep_units.new.connection in
    let d = state g.S.Store c.keep_records.new.connection in
    opens_behind (state g.S.Store c.args.connection.now) b d _ _ c.from_residual-in_err-keep_records.result c.in_ok-counted.ensures.found.survives c.in_err-keep_records.ensures.found.survives
    (fault_opens b d _ c.from_residual-in_err-keep_records.result c.from_residual-in_err-keep_records.ensures.1 c.in_err-keep_records.ensures.disk)

pub returns-in_err-keep_sums-clause-disk : goal.returns-in_err-keep_sums-clause-disk
returns-in_err-keep_sums-clause-disk g c =
    let a = state g.S.Store c.args.connection.now in
    let d = state g.S.Store c.keep_records.new.connection in
    let e = state g.S.Store c.keep_sums.new.connection in
    let records = after_both a (state g.S.Store c.keep_units.new.connection) d _ _ c.in_ok-counted.ensures.found.survives c.in_ok-keep_records.ensures.found.survives in
    opens_behind a d e _ _ c.from_residual-in_err-keep_sums.result records c.in_err-keep_sums.ensures.found.survives
    (fault_opens d e _ c.from_residual-in_err-keep_sums.result c.from_residual-in_err-keep_sums.ensures.1 c.in_err-keep_sums.ensures.disk)

pub returns-clause-disk : goal.returns-clause-disk
returns-clause-disk g c =
    let a = state g.S.Store c.args.connection.now in
    let d = state g.S.Store c.keep_records.new.connection in
    let e = state g.S.Store c.keep_sums.new.connection in
    let records = after_both a (state g.S.Store c.keep_units.new.connection) d _ _ c.in_ok-counted.ensures.found.survives c.in_ok-keep_records.ensures.found.survives in
    let sums = after_both a d e _ _ records c.in_ok-keep_sums.ensures.found.survives in
    opens_behind a e (state g.S.Store c.keep_counted.new.connection) _ _ c.keep_counted.result sums c.keep_counted.ensures.found.survives c.keep_counted.ensures.disk
