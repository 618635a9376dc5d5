use Rattle.std.proofs.Common.{refl}
use Rattle.commands.specs.ExportLines.{whole, broken, held}
use Rattle.commands.proofs.export.tell_written.Goals as goal

pub returns-in-Ok-send_receipt-clause-told : goal.returns-in-Ok-send_receipt-clause-told
returns-in-Ok-send_receipt-clause-told g c = whole c.in-Ok.ensures.sent c.in-Ok-send_receipt.ensures refl

pub returns-in-Err-send_receipt-clause-told : goal.returns-in-Err-send_receipt-clause-told
returns-in-Err-send_receipt-clause-told g c = broken c.in-Ok.ensures.sent c.in-Err-send_receipt.ensures refl

pub returns-in-Err-clause-told : goal.returns-in-Err-clause-told
returns-in-Err-clause-told g c = held c.in-Err.ensures.sent c.tell_fault.ensures.told c.tell_fault.ensures.status
