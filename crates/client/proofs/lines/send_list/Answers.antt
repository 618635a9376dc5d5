use Rattle.client.specs.Talks.{IsWithin}
use Rattle.client.proofs.ToldLemmas.{talked_from, as_many}
use Rattle.client.proofs.lines.send_list.Goals as goal

pub tell_held-requires : goal.tell_held-requires
tell_held-requires g c =
    let requests = c.args.requests.now in
    record { all = as_many (IsWithin c.args.tries) _ _ requests c.send_all.new.sender (talked_from (IsWithin c.args.tries) (g.L.Link.said c.args.link.now) (g.L.Link.said c.send_all.new.link) requests _ _ c.in_ok-sender.ensures.ok c.send_all.ensures.talked) }

pub returns-in-Ok-clause-ok : goal.returns-in-Ok-clause-ok
returns-in-Ok-clause-ok g c =
    record {
      distinct = c.in_ok-sender.ensures.distinct;
      sending = c.send_all.new.sender;
      talked = talked_from (IsWithin c.args.tries) (g.L.Link.said c.args.link.now) (g.L.Link.said c.send_all.new.link) c.args.requests.now _ _ c.in_ok-sender.ensures.ok c.send_all.ensures.talked;
      told = c.tell_held.ensures;
    }
