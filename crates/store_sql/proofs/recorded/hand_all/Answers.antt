use Rattle.std.proofs.Common.{◌≡◌, None, subst, arith}
use Rattle.sqlite.specs.Effect.{Database}
use Rattle.sqlite.specs.Held.{state}
use Rattle.sqlite.specs.State.{HasCleanDisk}
use Rattle.store_sql.specs.RecordsBehind.{WereHanded}
use Rattle.store_sql.proofs.HandedBlame.{failure_hands, hands_behind}
use Rattle.store_sql.proofs.RecordsHanded.{none_handed}
use Rattle.store_sql.proofs.HeadsShown.{still_heads}
use Rattle.store_sql.proofs.recorded.hand_all.Goals as goal

pub hand_every-requires-clause-heads : goal.hand_every-requires-clause-heads
hand_every-requires-clause-heads g c =
    let old = state g.S.Store c.args.connection.now in
    let mid = state g.S.Store c.look.new.connection in
    still_heads old mid c.requires.heads (λ clean. omega (arith, clean, c.in-Ok.ensures.looked.survives.clean)) c.in-Ok.ensures.looked.same

pub returns-in-Ok-clause-handed : goal.returns-in-Ok-clause-handed
returns-in-Ok-clause-handed g c clean =
    let old = state g.S.Store c.args.connection.now in
    let mid = state g.S.Store c.look.new.connection in
    let late : HasCleanDisk mid = omega (arith, clean, c.hand_every.ensures.looked.survives.clean) in
    let same : mid.now ≡ old.now = (c.in-Ok.ensures.looked.same late (c.in-Ok.ensures.looked.is_open late)).now in
    subst (λ (db : Database). WereHanded g.K.RowSink.Took g.K.RowSink.Refuses None db c.args.sink.now c.hand_every.new.sink c.hand_every.result) same (c.hand_every.ensures.handed clean)

pub returns-in-Err-clause-handed : goal.returns-in-Err-clause-handed
returns-in-Err-clause-handed g c clean =
    none_handed g.K.RowSink.Took g.K.RowSink.Refuses None (state g.S.Store c.args.connection.now).now g.met.K.RowSink.none c.args.sink.now c.in-Err.failure.lost

pub returns-in-Ok-clause-disk : goal.returns-in-Ok-clause-disk
returns-in-Ok-clause-disk g c =
    hands_behind (state g.S.Store c.args.connection.now) (state g.S.Store c.look.new.connection) (state g.S.Store c.hand_every.new.connection) _ _ c.hand_every.result
    c.in-Ok.ensures.looked.survives c.hand_every.ensures.looked.survives c.hand_every.ensures.disk

pub returns-in-Err-clause-disk : goal.returns-in-Err-clause-disk
returns-in-Err-clause-disk g c = failure_hands (state g.S.Store c.args.connection.now) (state g.S.Store c.look.new.connection) c.in-Err.failure.lost c.in-Err.ensures.disk
