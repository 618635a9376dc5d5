use Rattle.sender.proofs.WaitingLemmas.{finished_by_sets}
use Rattle.sender.proofs.sending.Sender.finished.Goals as goal

pub returns : goal.returns
returns c = finished_by_sets c.self.inside.exchanges.items c.args.self.now c.self.inside.places c.self.inside.waiting _ c.self.invariant c.self.view_is c.is_empty.ensures
