use Rattle.commands.proofs.canon.CanonicalReadSink.take.Goals as goal

pub returns-in-Ok : goal.returns-in-Ok
returns-in-Ok c = λ before was. record { sink = was.sink; empty = was.empty; pushed = c.in-Ok.ensures.pushed was.sink before was.pushed }
