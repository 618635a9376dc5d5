use Rattle.std.proofs.Common.{rules, ◌≡◌, Some, arith, of_z, subst, to_z, w64}
use Rattle.sqlite.specs.Held.{state}
use Rattle.sqlite.specs.State.{HasCleanDisk}
use Rattle.sql_streams.specs.Walks.{GaveAll, CutShort}
use Rattle.sql_statements.specs.RecordsInOrder.{ShowsBehind}
use Rattle.store_sql.proofs.HandedBlame.{walk_hands}
use Rattle.store_sql.proofs.RecordsHanded.{all_handed, cut_handed}
use Rattle.store_sql.proofs.recorded.hand_behind.Goals as goal

pub returns-in-Ok-clause-handed : goal.returns-in-Ok-clause-handed
returns-in-Ok-clause-handed g c number is clean =
    let db = (state g.S.Store c.args.connection.now).now in
    let early : HasCleanDisk (state g.S.Store c.args.connection.now) = omega (arith, clean, c.in-Ok.ensures.looked.survives.clean) in
    let heads = c.requires.heads early (c.requires.is_open early) in
    let n = c.args.place in
    let same : to_z w64 (of_z w64 n) ≡ n = search rules in
    all_handed g.K.RowSink.Took g.K.RowSink.Refuses (Some number) db (ShowsBehind (Some n) db) (λ rows shown. (n, is, shown, heads (Some n) rows shown)) c.args.sink.now c.walk_records_behind.new.sink
    (subst (λ p. GaveAll g.K.RowSink.Took (ShowsBehind (Some p) db) c.args.sink.now c.walk_records_behind.new.sink) same (c.in-Ok.ensures.handed clean))

pub returns-in-Err-clause-handed : goal.returns-in-Err-clause-handed
returns-in-Err-clause-handed g c number is clean =
    let db = (state g.S.Store c.args.connection.now).now in
    let early : HasCleanDisk (state g.S.Store c.args.connection.now) = omega (arith, clean, c.in-Err.ensures.looked.survives.clean) in
    let heads = c.requires.heads early (c.requires.is_open early) in
    let n = c.args.place in
    let same : to_z w64 (of_z w64 n) ≡ n = search rules in
    cut_handed g.K.RowSink.Took g.K.RowSink.Refuses (Some number) db (ShowsBehind (Some n) db) (λ rows shown. (n, is, shown, heads (Some n) rows shown)) c.args.sink.now c.walk_records_behind.new.sink c.in-Err.fault c.walk_fault.result c.walk_fault.ensures
    (subst (λ p. CutShort g.K.RowSink.Took g.K.RowSink.Refuses (ShowsBehind (Some p) db) c.args.sink.now c.walk_records_behind.new.sink c.in-Err.fault) same (c.in-Err.ensures.handed clean))

pub returns-in-Err-clause-disk : goal.returns-in-Err-clause-disk
returns-in-Err-clause-disk g c =
    walk_hands (state g.S.Store c.args.connection.now) (state g.S.Store c.walk_records_behind.new.connection) c.in-Err.fault c.walk_fault.result c.walk_fault.ensures c.in-Err.ensures.disk
