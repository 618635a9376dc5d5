use Rattle.std.proofs.Common.{◌≡◌, Ok, subst, sym, IsTrue, Err, ap}
use Rattle.sqlite.specs.Effect.{Database}
use Rattle.sqlite.specs.Held.{state}
use Rattle.sqlite.specs.State.{HasCleanDisk}
use Rattle.office_maps.specs.declared.office_maps.OfficeMaps.{OfficeMaps}
use Rattle.office_maps.specs.OfficeIn.{office_in}
use Rattle.office_specification.specs.Parts.{AreAlikeIn}
use Rattle.tables.specs.KeptByCalls.{IsKept}
use Rattle.tables.specs.Stops.{Nothing}
use Rattle.tables.specs.declared.faults.Lost.{Lost}
use Rattle.tables.specs.declared.faults.Lost.TheVariants.{Disk}
use Rattle.sql_meaning.specs.Domains.{office_of_rows, meaning_by_domain}
use Rattle.sql_schema.specs.Layouts.{rows_named}
use Rattle.store_sql.specs.TablesInFile.{is_honest, is_whole, means, may_leave, faults, is_stopped, held_part}
use Rattle.store_sql.proofs.AtHand.{at_hand_read, none_at_hand, part_still}
use Rattle.store_sql.proofs.StillKept.{keeps_still, kept_looked_up, kept_lost}
use Rattle.store_sql.proofs.office_connection.OfficeConnection.load_part.Goals as goal

pub invariant_of-self : goal.invariant_of-self
invariant_of-self g c =
    let old = c.self.inside.connection in
    let new = c.read_part.new.connection in
    let P : Database → OfficeMaps → Type 0 = (λ db maps. AreAlikeIn c.args.part (office_in maps) (office_of_rows (rows_named db))) in (
      c.in-Ok.ensures.found.ended,
      keeps_still g.S.Store old new (Ok c.in-Ok.maps) P c.self.invariant.1 c.in-Ok.ensures.found,
      at_hand_read (state g.S.Store old) (state g.S.Store new) c.args.part c.in-Ok.maps c.keep.new.office c.keep.ensures c.in-Ok.ensures.found,
      part_still (state g.S.Store old) (state g.S.Store new) (Ok c.in-Ok.maps) P c.self.inside.kept.part c.in-Ok.ensures.found c.self.invariant.3,
    )

pub returns-in-Ok-clause-loaded : goal.returns-in-Ok-clause-loaded
returns-in-Ok-clause-loaded g c = ap held_part c.keep.ensures

pub returns-in-Ok-clause-kept : goal.returns-in-Ok-clause-kept
returns-in-Ok-clause-kept g c =
    subst (λ old. IsKept {A = Unit} {E = Lost} (is_honest g.S.Store) (is_whole g.S.Store) (means g.S.Store) (may_leave g.S.Store) (faults g.S.Store) (is_stopped g.S.Store) old (c.read_part.new.connection, (c.self.inside.stopped, held_part c.keep.new.office)) (Ok tt) Disk Nothing)
    c.self.view_is
    (kept_looked_up g.S.Store c.self.inside.connection c.read_part.new.connection (Ok c.in-Ok.maps) (λ db maps. AreAlikeIn c.args.part (office_in maps) (office_of_rows (rows_named db)))
    c.self.invariant.1 c.in-Ok.ensures.found (Ok tt) (c.self.inside.stopped, held_part c.self.inside.office) (c.self.inside.stopped, held_part c.keep.new.office)
    (λ h db is_open left. g.met.S.Store.settled h.store db is_open left) (λ h is_open. g.met.S.Store.stays h.store is_open) c.if-self.false (λ is_open. is_open) tt (λ stopped. absurd (let no = c.if-self.false in let yes = stopped in cc)) tt)

pub invariant_of-self-in-Err : goal.invariant_of-self-in-Err
invariant_of-self-in-Err g c =
    let old = c.self.inside.connection in
    let new = c.read_part.new.connection in
    let P : Database → OfficeMaps → Type 0 = (λ db maps. AreAlikeIn c.args.part (office_in maps) (office_of_rows (rows_named db))) in (
      c.in-Err.ensures.found.ended,
      keeps_still g.S.Store old new (Err c.in-Err.failure) P c.self.invariant.1 c.in-Err.ensures.found,
      none_at_hand (state g.S.Store new) c.forget.new.office c.forget.ensures,
      part_still (state g.S.Store old) (state g.S.Store new) (Err c.in-Err.failure) P c.self.inside.kept.part c.in-Err.ensures.found c.self.invariant.3,
    )

pub returns-in-Ok-clause-same : goal.returns-in-Ok-clause-same
returns-in-Ok-clause-same g c = λ clean is_open.
    let new = c.read_part.new.connection in
    subst (λ t. meaning_by_domain (rows_named (state g.S.Store new).now) ≡ means g.S.Store t) c.self.view_is
    (ap (λ (db : Database). meaning_by_domain (rows_named db)) (c.in-Ok.ensures.found.same clean is_open).now)

pub returns-in-Err-clause-same : goal.returns-in-Err-clause-same
returns-in-Err-clause-same g c =
    let new = c.read_part.new.connection in
    subst (λ h. HasCleanDisk (state g.S.Store h) → IsTrue (state g.S.Store h).is_open → meaning_by_domain (rows_named (state g.S.Store h).now) ≡ means g.S.Store c.args.self.now) (sym c.lost.ensures.connection)
    (λ clean is_open. subst (λ t. meaning_by_domain (rows_named (state g.S.Store new).now) ≡ means g.S.Store t) c.self.view_is
    (ap (λ (db : Database). meaning_by_domain (rows_named db)) (c.in-Err.ensures.found.same clean is_open).now))

pub returns-in-Err-clause-kept : goal.returns-in-Err-clause-kept
returns-in-Err-clause-kept g c =
    let P : Database → OfficeMaps → Type 0 = (λ db maps. AreAlikeIn c.args.part (office_in maps) (office_of_rows (rows_named db))) in
    subst (λ old. IsKept {A = Unit} {E = Lost} (is_honest g.S.Store) (is_whole g.S.Store) (means g.S.Store) (may_leave g.S.Store) (faults g.S.Store) (is_stopped g.S.Store) old c.lost.new.self (Err c.lost.result) Disk Nothing)
    c.self.view_is
    (kept_lost g.S.Store c.self.inside.connection c.read_part.new.connection c.in-Err.failure P c.self.invariant.1 c.in-Err.ensures.found c.in-Err.ensures.disk c.lost.result
    (c.self.inside.stopped, held_part c.self.inside.office) c.lost.new.self
    (λ h db is_open left. g.met.S.Store.settled h.store db is_open left) (λ h is_open. g.met.S.Store.stays h.store is_open) c.if-self.false c.lost.ensures.result c.lost.ensures.connection c.lost.ensures.stops c.lost.ensures.runs)
