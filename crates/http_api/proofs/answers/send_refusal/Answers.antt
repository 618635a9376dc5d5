use Rattle.office.specs.Writers.{writer_at}
use Rattle.http_api.proofs.Coming.{json_same}
use Rattle.http_api.proofs.answers.send_refusal.Goals as goal

pub returns : goal.returns
returns g c =
    json_same (writer_at g.W.ByteSink.taken g.W.ByteSink.failed c.args.w.now) (writer_at g.W.ByteSink.taken g.W.ByteSink.failed c.send_json.new.w) c.send_json.result c.args.last
    c.refusal_status.result _ c.refusal_body.result.now _ c.refusal_status.ensures c.refusal_body.ensures c.send_json.ensures
