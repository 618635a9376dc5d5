use Rattle.std.proofs.Common.{refl}
use Rattle.client.specs.SendLines.{sent, refused}
use Rattle.client.proofs.ToldLemmas.{either_way}
use Rattle.client.proofs.lines.send_lines.Goals as goal

pub returns-in-Ok : goal.returns-in-Ok
returns-in-Ok g c = record { sent = sent c.in-Ok.ensures.ok refl }

pub returns-in-Err : goal.returns-in-Err
returns-in-Err g c = record { sent = refused c.in-Err.fault c.in-Err.ensures.err c.in-Err.ensures.unsent (either_way c.tell_fault.result c.tell_fault.ensures) refl }
