use Rattle.office.specs.Writers.{writer_at}
use Rattle.store_commands.proofs.Telling.{broke_off, handed_on}
use Rattle.store_commands.proofs.faults.send_line.Goals as goal

pub returns-in_err-send-clause-sent : goal.returns-in_err-send-clause-sent
returns-in_err-send-clause-sent g c =
    broke_off (writer_at g.W.ByteSink.taken g.W.ByteSink.failed c.args.w.now) (writer_at g.W.ByteSink.taken g.W.ByteSink.failed c.send.new.w) c.args.line.now c.from_residual.result c.from_residual.ensures.0 c.in_err-send.ensures

pub returns-clause-sent : goal.returns-clause-sent
returns-clause-sent g c =
    handed_on (writer_at g.W.ByteSink.taken g.W.ByteSink.failed c.args.w.now) (writer_at g.W.ByteSink.taken g.W.ByteSink.failed c.send.new.w) (writer_at g.W.ByteSink.taken g.W.ByteSink.failed c.hand_on.new.w) c.args.line.now c.hand_on.result c.in_ok-send.ensures c.hand_on.ensures.sent
