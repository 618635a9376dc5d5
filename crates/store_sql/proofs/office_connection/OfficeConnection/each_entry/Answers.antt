use Rattle.std.specs.Prelude.{⊤}
use Rattle.std.proofs.Common.{Ok, sym, subst, ◌≡◌, ◌∙◌, IsTrue, Err, ap}
use Rattle.sqlite.specs.Held.{Held, state}
use Rattle.sqlite.specs.State.{HasCleanDisk}
use Rattle.units.specs.Office.{project_in}
use Rattle.tables.specs.Entries.{entries_of}
use Rattle.tables.specs.KeptByCalls.{IsKept}
use Rattle.tables.specs.Sinks.{WasCutShort}
use Rattle.tables.specs.Stops.{Nothing}
use Rattle.tables.specs.declared.faults.EachFault.{EachFault}
use Rattle.tables.specs.declared.faults.EachFault.TheVariants.{NoTables}
use Rattle.tables.specs.declared.faults.Lost.TheVariants.{Disk}
use Rattle.sql_meaning.specs.Domains.{office_of_rows, meaning_by_domain}
use Rattle.store_sql.specs.TablesInFile.{is_honest, is_whole, means, may_leave, faults, is_stopped, Flags, held_part}
use Rattle.store_sql.proofs.StillKept.{failed_since, kept_looked_up_or, keeps_still}
use Rattle.sqlite.specs.Effect.{Database}
use Rattle.store_sql.proofs.AtHand.{none_at_hand, at_hand_still, part_still}
use Rattle.store_sql.proofs.office_connection.OfficeConnection.each_entry.Goals as goal
use Rattle.sql_schema.specs.Layouts.{rows_named}

pub returns-in-Ok-clause-kept : goal.returns-in-Ok-clause-kept
returns-in-Ok-clause-kept g c =
    let flags : Flags = (c.self.inside.stopped, held_part c.self.inside.office) in
    subst (λ old. IsKept {A = Unit {0}} {E = EachFault g.row.K-Refusal.Denot} (is_honest g.S.Store) (is_whole g.S.Store) (means g.S.Store) (may_leave g.S.Store) (faults g.S.Store) (is_stopped g.S.Store) old
    (c.hand_entries.new.connection, flags) (Ok (tt {0})) (NoTables Disk) Nothing)
    c.self.view_is
    (kept_looked_up_or g.S.Store c.self.inside.connection c.hand_entries.new.connection (Ok (tt {0})) (λ _ _. ⊤) c.self.invariant.1 c.in-Ok.ensures.looked (NoTables Disk) (Ok (tt {0})) flags flags
    (λ h db is_open left. g.met.S.Store.settled h.store db is_open left) (λ h is_open. g.met.S.Store.stays h.store is_open) c.if-self.false (λ is_open. is_open) tt (λ stopped. absurd (let no = c.if-self.false in let yes = stopped in cc)) tt)

pub returns-in-Err-clause-cut : goal.returns-in-Err-clause-cut
returns-in-Err-clause-cut g c clean =
    let late : HasCleanDisk (state g.S.Store c.hand_entries.new.connection) = subst (λ h. HasCleanDisk (state g.S.Store h)) c.cut_off.ensures.connection clean in
    subst (λ (old : Held g.row.S.Denot × Flags). WasCutShort g.K.EntrySink.Took g.K.EntrySink.Refuses c.args.sink.now c.hand_entries.new.sink
    (entries_of (project_in (office_of_rows (rows_named (state g.S.Store old.0).now)) c.args.domain.now) c.args.lang.now) c.cut_off.result) c.self.view_is
    (subst (WasCutShort g.K.EntrySink.Took g.K.EntrySink.Refuses c.args.sink.now c.hand_entries.new.sink (entries_of (project_in (office_of_rows (rows_named (state g.S.Store c.self.inside.connection).now)) c.args.domain.now) c.args.lang.now))
    (sym c.cut_off.ensures.result) (c.in-Err.ensures.handed late))

pub invariant_of-self : goal.invariant_of-self
invariant_of-self g c =
    let old = c.self.inside.connection in
    let new = c.hand_entries.new.connection in
    let P : Database → Unit {0} → Type 0 = (λ _ _. ⊤) in (
      c.in-Ok.ensures.looked.ended,
      keeps_still g.S.Store old new (Ok (tt {0})) P c.self.invariant.1 c.in-Ok.ensures.looked,
      at_hand_still (state g.S.Store old) (state g.S.Store new) (tt {0}) P c.self.inside.office c.in-Ok.ensures.looked c.self.invariant.2,
      part_still (state g.S.Store old) (state g.S.Store new) (Ok (tt {0})) P c.self.inside.kept.part c.in-Ok.ensures.looked c.self.invariant.3,
    )

pub invariant_of-self-in-Err : goal.invariant_of-self-in-Err
invariant_of-self-in-Err g c =
    let old = c.self.inside.connection in
    let new = c.hand_entries.new.connection in
    let P : Database → Unit {0} → Type 0 = (λ _ _. ⊤) in (
      c.in-Err.ensures.looked.ended,
      keeps_still g.S.Store old new (Err c.in-Err.fault) P c.self.invariant.1 c.in-Err.ensures.looked,
      none_at_hand (state g.S.Store new) c.forget.new.office c.forget.ensures,
      part_still (state g.S.Store old) (state g.S.Store new) (Err c.in-Err.fault) P c.self.inside.kept.part c.in-Err.ensures.looked c.self.invariant.3,
    )

pub returns-in-Ok-clause-all : goal.returns-in-Ok-clause-all
returns-in-Ok-clause-all g c = λ clean.
    subst (λ (old : Held g.row.S.Denot × Flags). g.K.EntrySink.Took c.args.sink.now (entries_of (project_in (office_of_rows (rows_named (state g.S.Store old.0).now)) c.args.domain.now) c.args.lang.now) c.hand_entries.new.sink)
    c.self.view_is (c.in-Ok.ensures.handed clean)

pub returns-in-Ok-clause-same : goal.returns-in-Ok-clause-same
returns-in-Ok-clause-same g c = λ clean is_open.
    let new = c.hand_entries.new.connection in
    subst (λ t. meaning_by_domain (rows_named (state g.S.Store new).now) ≡ means g.S.Store t) c.self.view_is
    (ap (λ (db : Database). meaning_by_domain (rows_named db)) (c.in-Ok.ensures.looked.same clean is_open).now)

pub returns-in-Err-clause-same : goal.returns-in-Err-clause-same
returns-in-Err-clause-same g c =
    let new = c.hand_entries.new.connection in
    subst (λ h. HasCleanDisk (state g.S.Store h) → IsTrue (state g.S.Store h).is_open → meaning_by_domain (rows_named (state g.S.Store h).now) ≡ means g.S.Store c.args.self.now) (sym c.cut_off.ensures.connection)
    (λ clean is_open. subst (λ t. meaning_by_domain (rows_named (state g.S.Store new).now) ≡ means g.S.Store t) c.self.view_is
    (ap (λ (db : Database). meaning_by_domain (rows_named db)) (c.in-Err.ensures.looked.same clean is_open).now))

pub returns-in-Err-clause-kept : goal.returns-in-Err-clause-kept
returns-in-Err-clause-kept g c =
    let old = c.self.inside.connection in
    let new = c.hand_entries.new.connection in
    let flags : Flags = (c.self.inside.stopped, held_part c.self.inside.office) in
    subst (λ t. IsKept {A = Unit {0}} {E = EachFault g.row.K-Refusal.Denot} (is_honest g.S.Store) (is_whole g.S.Store) (means g.S.Store) (may_leave g.S.Store) (faults g.S.Store) (is_stopped g.S.Store) t
    c.cut_off.new.self (Err c.cut_off.result) (NoTables Disk) Nothing)
    c.self.view_is
    (subst (λ h. IsKept {A = Unit {0}} {E = EachFault g.row.K-Refusal.Denot} (is_honest g.S.Store) (is_whole g.S.Store) (means g.S.Store) (may_leave g.S.Store) (faults g.S.Store) (is_stopped g.S.Store) (old, flags)
    (h, c.cut_off.new.self.1) (Err c.cut_off.result) (NoTables Disk) Nothing) (sym c.cut_off.ensures.connection)
    (kept_looked_up_or g.S.Store old new (Err c.in-Err.fault) (λ _ _. ⊤) c.self.invariant.1 c.in-Err.ensures.looked (NoTables Disk) (Err c.cut_off.result) flags c.cut_off.new.self.1
    (λ h db is_open left. g.met.S.Store.settled h.store db is_open left) (λ h is_open. g.met.S.Store.stays h.store is_open) c.if-self.false (λ is_open. tt) c.cut_off.ensures.stops (λ stopped. ap Err (c.cut_off.ensures.runs c.if-self.false stopped))
    (λ clean is_open disk. failed_since (state g.S.Store old) (state g.S.Store new) is_open (c.in-Err.ensures.disk clean (sym c.cut_off.ensures.result ∙ disk)))))
