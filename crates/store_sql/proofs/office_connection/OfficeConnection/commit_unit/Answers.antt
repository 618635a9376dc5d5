use Rattle.std.proofs.Common.{◌≡◌, ◌∙◌, Ok, Err, ap, sym, subst, IsTrue}
use Rattle.sqlite.specs.Held.{state}
use Rattle.sqlite.specs.State.{HasCleanDisk}
use Rattle.office_specification.specs.OfficeRules.{KeepsRules}
use Rattle.tables.specs.KeptByCalls.{IsKept}
use Rattle.tables.specs.declared.faults.Lost.{Lost}
use Rattle.tables.specs.declared.faults.Lost.TheVariants.{Disk}
use Rattle.sql_meaning.specs.Domains.{meaning_by_domain}
use Rattle.store_sql.specs.TablesInFile.{is_honest, is_whole, means, may_leave, faults, is_stopped, held_part}
use Rattle.store_sql.proofs.ActsCommitted.{left_by_act, IsOfUnit, act_keeps, act_tells, act_done, act_kept}
use Rattle.store_sql.proofs.AtHand.{none_at_hand}
use Rattle.store_sql.proofs.StillKept.{failed_since}
use Rattle.sqlite.specs.Effect.{Database}
use Rattle.store_sql.proofs.office_connection.OfficeConnection.commit_unit.Goals as goal
use Rattle.sql_schema.specs.Layouts.{rows_named}

pub invariant_of-self : goal.invariant_of-self
invariant_of-self g c =
    let possible : HasCleanDisk (state g.S.Store c.self.inside.connection) → IsOfUnit (rows_named (state g.S.Store c.self.inside.connection).now) c.args.domain.now c.args.lang.now c.args.key.now c.args.write.now =
    subst (λ t. is_honest g.S.Store t → IsOfUnit (rows_named (state g.S.Store t.0).now) c.args.domain.now c.args.lang.now c.args.key.now c.args.write.now) (sym c.self.view_is) c.requires.possible in
    let rules : HasCleanDisk (state g.S.Store c.self.inside.connection) → KeepsRules (left_by_act (rows_named (state g.S.Store c.self.inside.connection).now) c.args.row.now c.args.domain.now c.args.lang.now c.args.key.now c.args.write.now) =
    subst (λ t. is_honest g.S.Store t → KeepsRules (left_by_act (rows_named (state g.S.Store t.0).now) c.args.row.now c.args.domain.now c.args.lang.now c.args.key.now c.args.write.now)) (sym c.self.view_is) c.requires.rules in (
      c.in-Ok.ensures.committed.ended,
      act_keeps g.S.Store c.self.inside.connection c.commit_act.new.connection (Ok c.in-Ok.field-0) c.args.row.now c.args.domain.now c.args.lang.now c.args.key.now c.args.write.now
          c.self.invariant.1 c.key_fits.ensures.strings c.record_fits.ensures c.write_fits.ensures possible rules c.in-Ok.ensures.committed,
      none_at_hand (state g.S.Store c.commit_act.new.connection) c.forget.new.office c.forget.ensures,
      act_tells g.S.Store c.self.inside.connection c.commit_act.new.connection (Ok c.in-Ok.field-0) c.args.row.now c.args.domain.now c.args.lang.now c.args.key.now c.args.write.now
          c.self.invariant.1 c.key_fits.ensures.strings c.record_fits.ensures c.write_fits.ensures possible rules c.in-Ok.ensures.committed c.self.inside.kept.part c.self.invariant.3,
    )

pub invariant_of-self-in-Err : goal.invariant_of-self-in-Err
invariant_of-self-in-Err g c =
    let possible : HasCleanDisk (state g.S.Store c.self.inside.connection) → IsOfUnit (rows_named (state g.S.Store c.self.inside.connection).now) c.args.domain.now c.args.lang.now c.args.key.now c.args.write.now =
    subst (λ t. is_honest g.S.Store t → IsOfUnit (rows_named (state g.S.Store t.0).now) c.args.domain.now c.args.lang.now c.args.key.now c.args.write.now) (sym c.self.view_is) c.requires.possible in
    let rules : HasCleanDisk (state g.S.Store c.self.inside.connection) → KeepsRules (left_by_act (rows_named (state g.S.Store c.self.inside.connection).now) c.args.row.now c.args.domain.now c.args.lang.now c.args.key.now c.args.write.now) =
    subst (λ t. is_honest g.S.Store t → KeepsRules (left_by_act (rows_named (state g.S.Store t.0).now) c.args.row.now c.args.domain.now c.args.lang.now c.args.key.now c.args.write.now)) (sym c.self.view_is) c.requires.rules in (
      c.in-Err.ensures.committed.ended,
      act_keeps g.S.Store c.self.inside.connection c.commit_act.new.connection (Err c.in-Err.failure) c.args.row.now c.args.domain.now c.args.lang.now c.args.key.now c.args.write.now
          c.self.invariant.1 c.key_fits.ensures.strings c.record_fits.ensures c.write_fits.ensures possible rules c.in-Err.ensures.committed,
      none_at_hand (state g.S.Store c.commit_act.new.connection) c.forget.new.office c.forget.ensures,
      act_tells g.S.Store c.self.inside.connection c.commit_act.new.connection (Err c.in-Err.failure) c.args.row.now c.args.domain.now c.args.lang.now c.args.key.now c.args.write.now
          c.self.invariant.1 c.key_fits.ensures.strings c.record_fits.ensures c.write_fits.ensures possible rules c.in-Err.ensures.committed c.self.inside.kept.part c.self.invariant.3,
    )

pub returns-in-Ok-clause-done : goal.returns-in-Ok-clause-done
returns-in-Ok-clause-done g c =
    let possible : HasCleanDisk (state g.S.Store c.self.inside.connection) → IsOfUnit (rows_named (state g.S.Store c.self.inside.connection).now) c.args.domain.now c.args.lang.now c.args.key.now c.args.write.now =
    subst (λ t. is_honest g.S.Store t → IsOfUnit (rows_named (state g.S.Store t.0).now) c.args.domain.now c.args.lang.now c.args.key.now c.args.write.now) (sym c.self.view_is) c.requires.possible in
    let rules : HasCleanDisk (state g.S.Store c.self.inside.connection) → KeepsRules (left_by_act (rows_named (state g.S.Store c.self.inside.connection).now) c.args.row.now c.args.domain.now c.args.lang.now c.args.key.now c.args.write.now) =
    subst (λ t. is_honest g.S.Store t → KeepsRules (left_by_act (rows_named (state g.S.Store t.0).now) c.args.row.now c.args.domain.now c.args.lang.now c.args.key.now c.args.write.now)) (sym c.self.view_is) c.requires.rules in
    subst (λ t. HasCleanDisk (state g.S.Store c.commit_act.new.connection) → meaning_by_domain (rows_named (state g.S.Store c.commit_act.new.connection).now) ≡ left_by_act (rows_named (state g.S.Store t.0).now) c.args.row.now c.args.domain.now c.args.lang.now c.args.key.now c.args.write.now)
    c.self.view_is
    (act_done g.S.Store c.self.inside.connection c.commit_act.new.connection (Ok c.in-Ok.field-0) c.args.row.now c.args.domain.now c.args.lang.now c.args.key.now c.args.write.now
    c.self.invariant.1 c.key_fits.ensures.strings c.record_fits.ensures c.write_fits.ensures possible rules c.in-Ok.ensures.committed)

pub returns-in-Ok-clause-kept : goal.returns-in-Ok-clause-kept
returns-in-Ok-clause-kept g c =
    let possible : HasCleanDisk (state g.S.Store c.self.inside.connection) → IsOfUnit (rows_named (state g.S.Store c.self.inside.connection).now) c.args.domain.now c.args.lang.now c.args.key.now c.args.write.now =
    subst (λ t. is_honest g.S.Store t → IsOfUnit (rows_named (state g.S.Store t.0).now) c.args.domain.now c.args.lang.now c.args.key.now c.args.write.now) (sym c.self.view_is) c.requires.possible in
    let rules : HasCleanDisk (state g.S.Store c.self.inside.connection) → KeepsRules (left_by_act (rows_named (state g.S.Store c.self.inside.connection).now) c.args.row.now c.args.domain.now c.args.lang.now c.args.key.now c.args.write.now) =
    subst (λ t. is_honest g.S.Store t → KeepsRules (left_by_act (rows_named (state g.S.Store t.0).now) c.args.row.now c.args.domain.now c.args.lang.now c.args.key.now c.args.write.now)) (sym c.self.view_is) c.requires.rules in
    subst (λ t. IsKept {A = Unit} {E = Lost} (is_honest g.S.Store) (is_whole g.S.Store) (means g.S.Store) (may_leave g.S.Store) (faults g.S.Store) (is_stopped g.S.Store) t (c.commit_act.new.connection, (c.self.inside.stopped, held_part c.forget.new.office)) (Ok c.in-Ok.field-0) Disk
    (λ m. m ≡ left_by_act (rows_named (state g.S.Store t.0).now) c.args.row.now c.args.domain.now c.args.lang.now c.args.key.now c.args.write.now))
    c.self.view_is
    (act_kept g.S.Store c.self.inside.connection c.commit_act.new.connection (Ok c.in-Ok.field-0) c.args.row.now c.args.domain.now c.args.lang.now c.args.key.now c.args.write.now
    c.self.invariant.1 c.key_fits.ensures.strings c.record_fits.ensures c.write_fits.ensures possible rules c.in-Ok.ensures.committed (Ok c.in-Ok.field-0) (c.self.inside.stopped, held_part c.self.inside.office) (c.self.inside.stopped, held_part c.forget.new.office)
    (λ h db is_open left. g.met.S.Store.settled h.store db is_open left) c.if-self.false (λ is_open. is_open) tt (λ stopped. absurd (let no = c.if-self.false in let yes = stopped in cc)) tt)

pub returns-in-Err-clause-kept : goal.returns-in-Err-clause-kept
returns-in-Err-clause-kept g c =
    let possible : HasCleanDisk (state g.S.Store c.self.inside.connection) → IsOfUnit (rows_named (state g.S.Store c.self.inside.connection).now) c.args.domain.now c.args.lang.now c.args.key.now c.args.write.now =
    subst (λ t. is_honest g.S.Store t → IsOfUnit (rows_named (state g.S.Store t.0).now) c.args.domain.now c.args.lang.now c.args.key.now c.args.write.now) (sym c.self.view_is) c.requires.possible in
    let rules : HasCleanDisk (state g.S.Store c.self.inside.connection) → KeepsRules (left_by_act (rows_named (state g.S.Store c.self.inside.connection).now) c.args.row.now c.args.domain.now c.args.lang.now c.args.key.now c.args.write.now) =
    subst (λ t. is_honest g.S.Store t → KeepsRules (left_by_act (rows_named (state g.S.Store t.0).now) c.args.row.now c.args.domain.now c.args.lang.now c.args.key.now c.args.write.now)) (sym c.self.view_is) c.requires.rules in
    let kept = act_kept g.S.Store c.self.inside.connection c.commit_act.new.connection (Err c.in-Err.failure) c.args.row.now c.args.domain.now c.args.lang.now c.args.key.now c.args.write.now
    c.self.invariant.1 c.key_fits.ensures.strings c.record_fits.ensures c.write_fits.ensures possible rules c.in-Err.ensures.committed (Err c.lost.result) (c.self.inside.stopped, held_part c.self.inside.office) c.lost.new.self.1
    (λ h db is_open left. g.met.S.Store.settled h.store db is_open left) c.if-self.false (λ is_open. tt) c.lost.ensures.stops (λ stopped. ap Err (c.lost.ensures.runs c.if-self.false stopped))
    (λ clean is_open disk. failed_since (state g.S.Store c.self.inside.connection) (state g.S.Store c.commit_act.new.connection) is_open (c.in-Err.ensures.disk clean (sym c.lost.ensures.result ∙ disk))) in
    subst (λ t. IsKept {A = Unit} {E = Lost} (is_honest g.S.Store) (is_whole g.S.Store) (means g.S.Store) (may_leave g.S.Store) (faults g.S.Store) (is_stopped g.S.Store) t c.lost.new.self (Err c.lost.result) Disk
    (λ m. m ≡ left_by_act (rows_named (state g.S.Store t.0).now) c.args.row.now c.args.domain.now c.args.lang.now c.args.key.now c.args.write.now))
    c.self.view_is
    (subst (λ h. IsKept {A = Unit} {E = Lost} (is_honest g.S.Store) (is_whole g.S.Store) (means g.S.Store) (may_leave g.S.Store) (faults g.S.Store) (is_stopped g.S.Store) (c.self.inside.connection, (c.self.inside.stopped, held_part c.self.inside.office)) (h, c.lost.new.self.1) (Err c.lost.result) Disk
    (λ m. m ≡ left_by_act (rows_named (state g.S.Store c.self.inside.connection).now) c.args.row.now c.args.domain.now c.args.lang.now c.args.key.now c.args.write.now))
    (sym c.lost.ensures.connection) kept)

pub returns-in-Err-clause-same : goal.returns-in-Err-clause-same
returns-in-Err-clause-same g c =
    let new = c.commit_act.new.connection in
    subst (λ h. HasCleanDisk (state g.S.Store h) → IsTrue (state g.S.Store h).is_open → meaning_by_domain (rows_named (state g.S.Store h).now) ≡ means g.S.Store c.args.self.now) (sym c.lost.ensures.connection)
    (λ clean is_open. subst (λ t. meaning_by_domain (rows_named (state g.S.Store new).now) ≡ means g.S.Store t) c.self.view_is
    (ap (λ (db : Database). meaning_by_domain (rows_named db)) (c.in-Err.ensures.committed.same clean is_open).now))
