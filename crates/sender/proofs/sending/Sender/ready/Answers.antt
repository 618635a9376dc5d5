use Rattle.std.proofs.Common.{◌∙◌}
use Rattle.sender.proofs.WaitingLemmas.{ready_by_sets}
use Rattle.sender.proofs.sending.Sender.ready.Goals as goal

pub returns : goal.returns
returns c =
    c.is_ready.ensures ∙ ready_by_sets c.self.inside.exchanges.items c.args.self.now c.self.inside.places c.self.inside.waiting c.args.place c.self.invariant c.self.view_is
