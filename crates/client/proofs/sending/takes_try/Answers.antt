use Rattle.std.proofs.Common.{sym, ◌∙◌}
use Rattle.client.proofs.sending.takes_try.Goals as goal

pub returns-clause-ready : goal.returns-clause-ready
returns-clause-ready c = λ _. sym c.ready.ensures ∙ c.if-not-ready.false
