use Rattle.office.proofs.Streaming.{all_or_part}
use Rattle.commands.proofs.export.tell_fault.Goals as goal

pub returns-clause-told : goal.returns-clause-told
returns-clause-told g c = all_or_part _ _ _ c.send_export_fault.result c.send_export_fault.ensures
