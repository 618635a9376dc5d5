use Rattle.office.proofs.Streaming.{all_or_part}
use Rattle.store_commands.proofs.records.tell_records_fault.Goals as goal

pub returns-clause-told : goal.returns-clause-told
returns-clause-told g c = all_or_part _ _ _ c.send_records_fault.result c.send_records_fault.ensures
