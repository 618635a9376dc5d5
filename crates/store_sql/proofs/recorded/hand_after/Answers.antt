use Rattle.std.proofs.Common.{rules, ◌≡◌, Some, refl, sym, subst, of_z, to_z, w64, arith}
use Rattle.sqlite.specs.Effect.{Database}
use Rattle.sqlite.specs.Held.{state}
use Rattle.sqlite.specs.State.{HasCleanDisk}
use Rattle.store_sql.specs.RecordsBehind.{IsPlaceOf, WereHanded}
use Rattle.store_sql.proofs.HandedBlame.{failure_hands, none_hands, hands_behind}
use Rattle.store_sql.proofs.RecordsHanded.{none_handed}
use Rattle.store_sql.proofs.HeadsShown.{still_heads}
use Rattle.store_sql.proofs.recorded.hand_after.Goals as goal

pub hand_behind-requires-clause-heads : goal.hand_behind-requires-clause-heads
hand_behind-requires-clause-heads g c =
    let old = state g.S.Store c.args.connection.now in
    let mid = state g.S.Store c.read_place.new.connection in
    still_heads old mid c.requires.heads (λ clean. omega (arith, clean, c.in-Ok-Some.ensures.found.survives.clean)) c.in-Ok-Some.ensures.found.same

pub returns-in-Ok-Some-clause-handed : goal.returns-in-Ok-Some-clause-handed
returns-in-Ok-Some-clause-handed g c clean =
    let old = state g.S.Store c.args.connection.now in
    let mid = state g.S.Store c.read_place.new.connection in
    let n = c.in-Ok-Some.place in
    let late : HasCleanDisk mid = omega (arith, clean, c.hand_behind.ensures.looked.survives.clean) in
    let found = c.in-Ok-Some.ensures.found in
    let same : mid.now ≡ old.now = (found.same late (found.is_open late)).now in
    let fits : to_z w64 (of_z w64 n) ≡ n = search rules in
    let there : IsPlaceOf c.args.number old.now (Some n) = subst (IsPlaceOf c.args.number old.now) c.in-Ok-Some.field-0-is (found.answer late) in
    subst (λ (db : Database). IsPlaceOf c.args.number db (Some n) → WereHanded g.K.RowSink.Took g.K.RowSink.Refuses (Some c.args.number) db c.args.sink.now c.hand_behind.new.sink c.hand_behind.result) same
    (λ is. c.hand_behind.ensures.handed c.args.number (subst (λ p. IsPlaceOf c.args.number mid.now (Some p)) (sym fits) is) clean) there

pub returns-in-Ok-None-clause-handed : goal.returns-in-Ok-None-clause-handed
returns-in-Ok-None-clause-handed g c clean =
    (subst (IsPlaceOf c.args.number (state g.S.Store c.args.connection.now).now) c.in-Ok-None.field-0-is (c.in-Ok-None.ensures.found.answer clean), refl)

pub returns-in-Err-clause-handed : goal.returns-in-Err-clause-handed
returns-in-Err-clause-handed g c clean =
    none_handed g.K.RowSink.Took g.K.RowSink.Refuses (Some c.args.number) (state g.S.Store c.args.connection.now).now g.met.K.RowSink.none c.args.sink.now c.in-Err.failure.lost

pub returns-in-Ok-Some-clause-disk : goal.returns-in-Ok-Some-clause-disk
returns-in-Ok-Some-clause-disk g c =
    hands_behind (state g.S.Store c.args.connection.now) (state g.S.Store c.read_place.new.connection) (state g.S.Store c.hand_behind.new.connection) _ _ c.hand_behind.result
    c.in-Ok-Some.ensures.found.survives c.hand_behind.ensures.looked.survives c.hand_behind.ensures.disk

pub returns-in-Ok-None-clause-disk : goal.returns-in-Ok-None-clause-disk
returns-in-Ok-None-clause-disk g c = none_hands (state g.S.Store c.args.connection.now) (state g.S.Store c.read_place.new.connection)

pub returns-in-Err-clause-disk : goal.returns-in-Err-clause-disk
returns-in-Err-clause-disk g c = failure_hands (state g.S.Store c.args.connection.now) (state g.S.Store c.read_place.new.connection) c.in-Err.failure.lost c.in-Err.ensures.disk
