use Rattle.std.proofs.Common.{subst, sym, ◌∙◌}
use Rattle.http.specs.StatusCode.{IsStatusCode}
use Rattle.office.specs.Writers.{writer_at}
use Rattle.http_api.proofs.Coming.{reply_told, reply_lost}
use Rattle.http_api.proofs.answers.send_reply.Goals as goal

pub returns-in-Ok : goal.returns-in-Ok
returns-in-Ok g c = reply_told (writer_at g.W.ByteSink.taken g.W.ByteSink.failed c.args.w.now) (writer_at g.W.ByteSink.taken g.W.ByteSink.failed c.send_json.new.w) c.send_json.result c.args.last c.args.reply.now c.in-Ok.status c.body.result.now
    (subst IsStatusCode (sym c.in-Ok.ensures.1) c.in-Ok.ensures.0) (c.in-Ok.ensures.1 ∙ c.status.ensures) c.body.ensures c.send_json.ensures

pub returns-in-Err : goal.returns-in-Err
returns-in-Err g c = reply_lost (writer_at g.W.ByteSink.taken g.W.ByteSink.failed c.args.w.now) (writer_at g.W.ByteSink.taken g.W.ByteSink.failed c.send_refusal.new.w) c.send_refusal.result c.args.last c.args.reply.now c.status.result c.in-Err.ensures c.status.ensures c.send_refusal.ensures
