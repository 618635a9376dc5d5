use Rattle.sender.proofs.WaitingLemmas.{kept_or_new}
use Rattle.sender.proofs.exchange.Exchange.hold.Goals as goal

pub returns : goal.returns
returns c = kept_or_new c.args.self.now c.args.reply c.get_or_insert.result.now c.get_or_insert.ensures.value
