use Rattle.std.proofs.Common.{inl, inr, refl}
use Rattle.store_commands.proofs.init.say_ready.Goals as goal

pub returns-in-Ok-clause-said : goal.returns-in-Ok-clause-said
returns-in-Ok-clause-said g c = inl (c.in-Ok.ensures.sent, refl)

pub returns-in-Err-clause-said : goal.returns-in-Err-clause-said
returns-in-Err-clause-said g c = inr (c.in-Err.ensures.sent, refl)
