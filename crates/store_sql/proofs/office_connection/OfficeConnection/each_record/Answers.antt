use Rattle.std.specs.Prelude.{⊤}
use Rattle.std.proofs.Common.{Ok, sym, subst, ◌≡◌, ◌∙◌, IsTrue, Err, ap}
use Rattle.sqlite.specs.Held.{Held, state}
use Rattle.sqlite.specs.State.{HasCleanDisk}
use Rattle.sqlite.specs.Effect.{Database}
use Rattle.sql_streams.specs.Walks.{GaveAll}
use Rattle.tables.specs.KeptByCalls.{IsKept}
use Rattle.tables.specs.Stops.{Nothing}
use Rattle.tables.specs.declared.faults.Lost.TheVariants.{Disk}
use Rattle.store_sql.specs.declared.recorded.HandingFault.{HandingFault}
use Rattle.store_sql.specs.declared.recorded.HandingFault.TheVariants.{NoTables}
use Rattle.store_sql.specs.RecordsBehind.{AreBehind, WereCut}
use Rattle.store_sql.specs.TablesInFile.{is_honest, is_whole, means, may_leave, faults, is_stopped, Flags, held_part}
use Rattle.store_sql.proofs.HeadsShown.{holds_heads}
use Rattle.store_sql.proofs.StillKept.{failed_since, kept_looked_up_or, keeps_still}
use Rattle.store_sql.proofs.AtHand.{none_at_hand, at_hand_still, part_still}
use Rattle.store_sql.proofs.office_connection.OfficeConnection.each_record.Goals as goal

pub hand_records-requires-clause-heads : goal.hand_records-requires-clause-heads
hand_records-requires-clause-heads g c = holds_heads (state g.S.Store c.self.inside.connection) c.self.invariant.1

pub invariant_of-self : goal.invariant_of-self
invariant_of-self g c =
    let old = c.self.inside.connection in
    let new = c.hand_records.new.connection in
    let P : Database → Unit {0} → Type 0 = (λ _ _. ⊤) in (
      c.in-Ok.ensures.looked.ended,
      keeps_still g.S.Store old new (Ok (tt {0})) P c.self.invariant.1 c.in-Ok.ensures.looked,
      at_hand_still (state g.S.Store old) (state g.S.Store new) (tt {0}) P c.self.inside.office c.in-Ok.ensures.looked c.self.invariant.2,
      part_still (state g.S.Store old) (state g.S.Store new) (Ok (tt {0})) P c.self.inside.kept.part c.in-Ok.ensures.looked c.self.invariant.3,
    )

pub invariant_of-self-in-Err : goal.invariant_of-self-in-Err
invariant_of-self-in-Err g c =
    let old = c.self.inside.connection in
    let new = c.hand_records.new.connection in
    let P : Database → Unit {0} → Type 0 = (λ _ _. ⊤) in (
      c.in-Err.ensures.looked.ended,
      keeps_still g.S.Store old new (Err c.in-Err.fault) P c.self.invariant.1 c.in-Err.ensures.looked,
      none_at_hand (state g.S.Store new) c.forget.new.office c.forget.ensures,
      part_still (state g.S.Store old) (state g.S.Store new) (Err c.in-Err.fault) P c.self.inside.kept.part c.in-Err.ensures.looked c.self.invariant.3,
    )

pub returns-in-Ok-clause-handed : goal.returns-in-Ok-clause-handed
returns-in-Ok-clause-handed g c = λ clean.
    subst (λ (old : Held g.row.S.Denot × Flags). GaveAll g.K.RowSink.Took (AreBehind c.args.after (state g.S.Store old.0).now) c.args.sink.now c.hand_records.new.sink) c.self.view_is (c.in-Ok.ensures.handed clean)

pub returns-in-Err-clause-handed : goal.returns-in-Err-clause-handed
returns-in-Err-clause-handed g c clean =
    let late : HasCleanDisk (state g.S.Store c.hand_records.new.connection) = subst (λ h. HasCleanDisk (state g.S.Store h)) c.unread.ensures.connection clean in
    subst (λ (old : Held g.row.S.Denot × Flags). WereCut g.K.RowSink.Took g.K.RowSink.Refuses c.args.after (state g.S.Store old.0).now c.args.sink.now c.hand_records.new.sink c.unread.result) c.self.view_is
    (subst (WereCut g.K.RowSink.Took g.K.RowSink.Refuses c.args.after (state g.S.Store c.self.inside.connection).now c.args.sink.now c.hand_records.new.sink) (sym c.unread.ensures.result) (c.in-Err.ensures.handed late))

pub returns-in-Ok-clause-same : goal.returns-in-Ok-clause-same
returns-in-Ok-clause-same g c = λ clean is_open.
    subst (λ (old : Held g.row.S.Denot × Flags). (state g.S.Store c.hand_records.new.connection).now ≡ (state g.S.Store old.0).now) c.self.view_is (c.in-Ok.ensures.looked.same clean is_open).now

pub returns-in-Err-clause-same : goal.returns-in-Err-clause-same
returns-in-Err-clause-same g c =
    let new = c.hand_records.new.connection in
    subst (λ h. HasCleanDisk (state g.S.Store h) → IsTrue (state g.S.Store h).is_open → (state g.S.Store h).now ≡ (state g.S.Store c.args.self.now.0).now) (sym c.unread.ensures.connection)
    (λ clean is_open. subst (λ (old : Held g.row.S.Denot × Flags). (state g.S.Store new).now ≡ (state g.S.Store old.0).now) c.self.view_is (c.in-Err.ensures.looked.same clean is_open).now)

pub returns-in-Ok-clause-kept : goal.returns-in-Ok-clause-kept
returns-in-Ok-clause-kept g c =
    let flags : Flags = (c.self.inside.stopped, held_part c.self.inside.office) in
    subst (λ old. IsKept {A = Unit {0}} {E = HandingFault g.row.K-Refusal.Denot} (is_honest g.S.Store) (is_whole g.S.Store) (means g.S.Store) (may_leave g.S.Store) (faults g.S.Store) (is_stopped g.S.Store) old
    (c.hand_records.new.connection, flags) (Ok (tt {0})) (NoTables Disk) Nothing)
    c.self.view_is
    (kept_looked_up_or g.S.Store c.self.inside.connection c.hand_records.new.connection (Ok (tt {0})) (λ _ _. ⊤) c.self.invariant.1 c.in-Ok.ensures.looked (NoTables Disk) (Ok (tt {0})) flags flags
    (λ h db is_open left. g.met.S.Store.settled h.store db is_open left) (λ h is_open. g.met.S.Store.stays h.store is_open) c.if-self.false (λ is_open. is_open) tt (λ stopped. absurd (let no = c.if-self.false in let yes = stopped in cc)) tt)

pub returns-in-Err-clause-kept : goal.returns-in-Err-clause-kept
returns-in-Err-clause-kept g c =
    let old = c.self.inside.connection in
    let new = c.hand_records.new.connection in
    let flags : Flags = (c.self.inside.stopped, held_part c.self.inside.office) in
    subst (λ t. IsKept {A = Unit {0}} {E = HandingFault g.row.K-Refusal.Denot} (is_honest g.S.Store) (is_whole g.S.Store) (means g.S.Store) (may_leave g.S.Store) (faults g.S.Store) (is_stopped g.S.Store) t
    c.unread.new.self (Err c.unread.result) (NoTables Disk) Nothing)
    c.self.view_is
    (subst (λ h. IsKept {A = Unit {0}} {E = HandingFault g.row.K-Refusal.Denot} (is_honest g.S.Store) (is_whole g.S.Store) (means g.S.Store) (may_leave g.S.Store) (faults g.S.Store) (is_stopped g.S.Store) (old, flags)
    (h, c.unread.new.self.1) (Err c.unread.result) (NoTables Disk) Nothing) (sym c.unread.ensures.connection)
    (kept_looked_up_or g.S.Store old new (Err c.in-Err.fault) (λ _ _. ⊤) c.self.invariant.1 c.in-Err.ensures.looked (NoTables Disk) (Err c.unread.result) flags c.unread.new.self.1
    (λ h db is_open left. g.met.S.Store.settled h.store db is_open left) (λ h is_open. g.met.S.Store.stays h.store is_open) c.if-self.false (λ is_open. tt) c.unread.ensures.stops (λ stopped. ap Err (c.unread.ensures.runs c.if-self.false stopped))
    (λ clean is_open disk. failed_since (state g.S.Store old) (state g.S.Store new) is_open (c.in-Err.ensures.disk clean (sym c.unread.ensures.result ∙ disk)))))
