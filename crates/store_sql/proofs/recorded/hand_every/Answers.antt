use Rattle.std.proofs.Common.{None, arith}
use Rattle.sqlite.specs.Held.{state}
use Rattle.sqlite.specs.State.{HasCleanDisk}
use Rattle.sql_statements.specs.RecordsInOrder.{ShowsBehind}
use Rattle.store_sql.proofs.HandedBlame.{walk_hands}
use Rattle.store_sql.proofs.RecordsHanded.{all_handed, cut_handed}
use Rattle.store_sql.proofs.recorded.hand_every.Goals as goal

pub returns-in-Ok-clause-handed : goal.returns-in-Ok-clause-handed
returns-in-Ok-clause-handed g c clean =
    let old = state g.S.Store c.args.connection.now in
    let early : HasCleanDisk old = omega (arith, clean, c.in-Ok.ensures.looked.survives.clean) in
    let heads = c.requires.heads early (c.requires.is_open early) in
    all_handed g.K.RowSink.Took g.K.RowSink.Refuses None old.now (ShowsBehind None old.now) (λ rows shown. (shown, heads None rows shown)) c.args.sink.now c.walk_records.new.sink (c.in-Ok.ensures.handed clean)

pub returns-in-Err-clause-handed : goal.returns-in-Err-clause-handed
returns-in-Err-clause-handed g c clean =
    let old = state g.S.Store c.args.connection.now in
    let early : HasCleanDisk old = omega (arith, clean, c.in-Err.ensures.looked.survives.clean) in
    let heads = c.requires.heads early (c.requires.is_open early) in
    cut_handed g.K.RowSink.Took g.K.RowSink.Refuses None old.now (ShowsBehind None old.now) (λ rows shown. (shown, heads None rows shown)) c.args.sink.now c.walk_records.new.sink c.in-Err.fault c.walk_fault.result c.walk_fault.ensures (c.in-Err.ensures.handed clean)

pub returns-in-Err-clause-disk : goal.returns-in-Err-clause-disk
returns-in-Err-clause-disk g c =
    walk_hands (state g.S.Store c.args.connection.now) (state g.S.Store c.walk_records.new.connection) c.in-Err.fault c.walk_fault.result c.walk_fault.ensures c.in-Err.ensures.disk
