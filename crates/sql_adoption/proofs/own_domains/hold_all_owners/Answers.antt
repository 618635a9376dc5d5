use Rattle.std.proofs.Common.{Ok, Err}
use Rattle.std.proofs.lemmas.Result.{err_from_is_err_and}
use Rattle.sqlite.specs.Held.{state}
use Rattle.sqlite.specs.Effect.{Database}
use Rattle.sqlite.specs.State.{State}
use Rattle.sql_schema.specs.Layouts.{by_domain}
use Rattle.sql_schema.specs.Whole.{IsIdleOver}
use Rattle.sql_statements.specs.declared.owners.Owned.TheVariants.{Template, Languages, Units, Suggestions}
use Rattle.sql_adoption.specs.OwnedRows.{TestsRows}
use Rattle.sql_layouts.proofs.Looked.{idle_still}
use Rattle.sql_adoption.proofs.OwnDomains.{Among, FirstTwo, FirstThree, AllAmong, fails_too, then_tests, all_tested}
use Rattle.sql_adoption.proofs.OpensBlame.{fault_opens, opens_behind}
use Rattle.sql_adoption.proofs.own_domains.hold_all_owners.Goals as goal

idle_on : {U : Type 0} (P : Database → Type 0) (a b : State) (u : U) → IsIdleOver by_domain a → TestsRows P a b (Ok u) → IsIdleOver by_domain b
idle_on P a b u idle it = idle_still a b (Ok u) (λ db _. P db) idle it.found

pub hold_owners-requires-2-clause-idle : goal.hold_owners-requires-2-clause-idle
hold_owners-requires-2-clause-idle g c = idle_on _ (state g.S.Store c.args.connection.now) (state g.S.Store c.hold_owners.new.connection) _ c.requires.idle c.in_ok-hold_owners.ensures.tests

pub hold_owners-requires-2-clause-is_open : goal.hold_owners-requires-2-clause-is_open
hold_owners-requires-2-clause-is_open g c = c.in_ok-hold_owners.ensures.tests.found.is_open

pub hold_owners-requires-3-clause-idle : goal.hold_owners-requires-3-clause-idle
hold_owners-requires-3-clause-idle g c =
    let b = state g.S.Store c.hold_owners.new.connection in
    idle_on _ b (state g.S.Store c.hold_owners-2.new.connection) _ (idle_on _ (state g.S.Store c.args.connection.now) b _ c.requires.idle c.in_ok-hold_owners.ensures.tests) c.in_ok-hold_owners-2.ensures.tests

pub hold_owners-requires-3-clause-is_open : goal.hold_owners-requires-3-clause-is_open
hold_owners-requires-3-clause-is_open g c = c.in_ok-hold_owners-2.ensures.tests.found.is_open

pub hold_owners-requires-4-clause-idle : goal.hold_owners-requires-4-clause-idle
hold_owners-requires-4-clause-idle g c =
    let b = state g.S.Store c.hold_owners.new.connection in
    let d = state g.S.Store c.hold_owners-2.new.connection in
    idle_on _ d (state g.S.Store c.hold_owners-3.new.connection) _
    (idle_on _ b d _ (idle_on _ (state g.S.Store c.args.connection.now) b _ c.requires.idle c.in_ok-hold_owners.ensures.tests) c.in_ok-hold_owners-2.ensures.tests) c.in_ok-hold_owners-3.ensures.tests

pub hold_owners-requires-4-clause-is_open : goal.hold_owners-requires-4-clause-is_open
hold_owners-requires-4-clause-is_open g c = c.in_ok-hold_owners-3.ensures.tests.found.is_open

pub returns : goal.returns
returns g c =
    let ds = c.args.domains.now in
    let a = state g.S.Store c.args.connection.now in
    let b = state g.S.Store c.hold_owners.new.connection in
    let d = state g.S.Store c.hold_owners-2.new.connection in
    let e = state g.S.Store c.hold_owners-3.new.connection in
    let f = state g.S.Store c.hold_owners-4.new.connection in
    let two = then_tests (Among ds Template) (Among ds Languages) a b d _ (Ok _) c.in_ok-hold_owners.ensures.tests c.in_ok-hold_owners-2.ensures.tests in
    let three = then_tests (FirstTwo ds) (Among ds Units) a d e _ (Ok _) two c.in_ok-hold_owners-3.ensures.tests in
    record {
      tests = all_tested ds a f c.hold_owners-4.result (then_tests (FirstThree ds) (Among ds Suggestions) a e f _ c.hold_owners-4.result three c.hold_owners-4.ensures.tests);
      disk = opens_behind a e f _ _ c.hold_owners-4.result three.found.survives c.hold_owners-4.ensures.tests.found.survives c.hold_owners-4.ensures.disk;
    }

pub returns-in_err-hold_owners : goal.returns-in_err-hold_owners
returns-in_err-hold_owners g c =
    let ds = c.args.domains.now in
    let p = err_from_is_err_and c.from_residual.result c.from_residual.ensures.1 in
    record {
      tests = rw (p.1, p.2) (fails_too (Among ds Template) (AllAmong ds) (λ db all. all Template) (state g.S.Store c.args.connection.now) (state g.S.Store c.hold_owners.new.connection) c.in_err-hold_owners.field-0.0
          c.in_err-hold_owners.ensures.tests);
      disk = fault_opens (state g.S.Store c.args.connection.now) (state g.S.Store c.hold_owners.new.connection) _ c.from_residual.result c.from_residual.ensures.1 c.in_err-hold_owners.ensures.disk;
    }

pub returns-in_err-hold_owners-2 : goal.returns-in_err-hold_owners-2
returns-in_err-hold_owners-2 g c =
    let ds = c.args.domains.now in
    let a = state g.S.Store c.args.connection.now in
    let d = state g.S.Store c.hold_owners-2.new.connection in
    let p = err_from_is_err_and c.from_residual-in_err-hold_owners-2.result c.from_residual-in_err-hold_owners-2.ensures.1 in
    record {
      tests = rw (p.1, p.2) (fails_too (FirstTwo ds) (AllAmong ds) (λ db all. (all Template, all Languages)) a d c.in_err-hold_owners-2.field-0.0
          (then_tests (Among ds Template) (Among ds Languages) a (state g.S.Store c.hold_owners.new.connection) d _ (Err _) c.in_ok-hold_owners.ensures.tests c.in_err-hold_owners-2.ensures.tests));
      disk = opens_behind a (state g.S.Store c.hold_owners.new.connection) d _ _ c.from_residual-in_err-hold_owners-2.result c.in_ok-hold_owners.ensures.tests.found.survives c.in_err-hold_owners-2.ensures.tests.found.survives
          (fault_opens (state g.S.Store c.hold_owners.new.connection) d _ c.from_residual-in_err-hold_owners-2.result c.from_residual-in_err-hold_owners-2.ensures.1 c.in_err-hold_owners-2.ensures.disk);
    }

pub returns-in_err-hold_owners-3 : goal.returns-in_err-hold_owners-3
returns-in_err-hold_owners-3 g c =
    let ds = c.args.domains.now in
    let a = state g.S.Store c.args.connection.now in
    let b = state g.S.Store c.hold_owners.new.connection in
    let d = state g.S.Store c.hold_owners-2.new.connection in
    let e = state g.S.Store c.hold_owners-3.new.connection in
    let two = then_tests (Among ds Template) (Among ds Languages) a b d _ (Ok _) c.in_ok-hold_owners.ensures.tests c.in_ok-hold_owners-2.ensures.tests in
    let p = err_from_is_err_and c.from_residual-in_err-hold_owners-3.result c.from_residual-in_err-hold_owners-3.ensures.1 in
    record {
      tests = rw (p.1, p.2) (fails_too (FirstThree ds) (AllAmong ds) (λ db all. ((all Template, all Languages), all Units)) a e c.in_err-hold_owners-3.field-0.0
          (then_tests (FirstTwo ds) (Among ds Units) a d e _ (Err _) two c.in_err-hold_owners-3.ensures.tests));
      disk = opens_behind a d e _ _ c.from_residual-in_err-hold_owners-3.result two.found.survives c.in_err-hold_owners-3.ensures.tests.found.survives
          (fault_opens d e _ c.from_residual-in_err-hold_owners-3.result c.from_residual-in_err-hold_owners-3.ensures.1 c.in_err-hold_owners-3.ensures.disk);
    }
