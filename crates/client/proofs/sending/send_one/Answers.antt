use Rattle.std.proofs.Common.{◌∙◌}
use Rattle.client.proofs.TalkLemmas.{spoke, unheard}
use Rattle.client.proofs.sending.send_one.Goals as goal

pub returns-in-Some : goal.returns-in-Some
returns-in-Some g c =
    spoke c.args.request.now (g.L.Link.said c.args.link.now) (g.L.Link.said c.exchanged-reply.new.link) c.args.sender.now c.on_reply.new.self c.in-Some.reply c.as_bytes.result.now c.exchanged-reply.result
    (c.as_bytes.ensures.value ∙ c.as_str.ensures ∙ c.in-Ok.ensures) c.exchanged-reply.ensures c.in-Some.is c.on_reply.ensures

pub returns-in-None : goal.returns-in-None
returns-in-None g c =
    unheard c.args.request.now (g.L.Link.said c.args.link.now) (g.L.Link.said c.exchanged-reply.new.link) c.args.sender.now c.as_bytes.result.now c.exchanged-reply.result
    (c.as_bytes.ensures.value ∙ c.as_str.ensures ∙ c.in-Ok.ensures) c.exchanged-reply.ensures
