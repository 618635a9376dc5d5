use Rattle.std.proofs.Common.{sym, subst}
use Rattle.sqlite.specs.Held.{state}
use Rattle.store_sql.specs.RecordsBehind.{WereHanded}
use Rattle.store_sql.proofs.recorded.hand_records.Goals as goal

pub returns-in-Some-clause-handed : goal.returns-in-Some-clause-handed
returns-in-Some-clause-handed g c clean =
    subst (λ after. WereHanded g.K.RowSink.Took g.K.RowSink.Refuses after (state g.S.Store c.args.connection.now).now c.args.sink.now c.hand_after.new.sink c.hand_after.result) (sym c.in-Some.is) (c.hand_after.ensures.handed clean)

pub returns-in-None-clause-handed : goal.returns-in-None-clause-handed
returns-in-None-clause-handed g c clean =
    subst (λ after. WereHanded g.K.RowSink.Took g.K.RowSink.Refuses after (state g.S.Store c.args.connection.now).now c.args.sink.now c.hand_all.new.sink c.hand_all.result) (sym c.in-None.is) (c.hand_all.ensures.handed clean)

pub returns-in-Some-clause-disk : goal.returns-in-Some-clause-disk
returns-in-Some-clause-disk g c = c.hand_after.ensures.disk

pub returns-in-None-clause-disk : goal.returns-in-None-clause-disk
returns-in-None-clause-disk g c = c.hand_all.ensures.disk
