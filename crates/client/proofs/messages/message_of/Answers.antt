use Rattle.client.proofs.messages.message_of.Goals as goal

pub returns : goal.returns
returns c = c.format.ensures.ok
