use Rattle.tables.proofs.Handings.{refused}
use Rattle.tables.proofs.handing.hand.Goals as goal

pub returns-in-Err : goal.returns-in-Err
returns-in-Err g c =
    refused g.S.EntrySink.Refuses g.met.S.EntrySink.none c.args.sink.now c.take.new.self c.args.entry.now c.in-Err.refusal c.in-Err.ensures.err
