use Rattle.std.proofs.Common.{refl}
use Rattle.office.proofs.Streaming.{took_none}
use Rattle.store_commands.specs.Records.{printed, cut}
use Rattle.store_commands.proofs.records.print_records.Goals as goal

pub returns-in-Ok-clause-printed : goal.returns-in-Ok-clause-printed
returns-in-Ok-clause-printed g c = printed c.in-Ok.ensures.printed (took_none _ _) refl

pub returns-in-Err-clause-printed : goal.returns-in-Err-clause-printed
returns-in-Err-clause-printed g c = cut c.in-Err.fault c.in-Err.ensures.printed c.in-Err.ensures.disk c.tell_records_fault.ensures.told c.tell_records_fault.ensures.status

pub returns-in-Ok-clause-runs_on : goal.returns-in-Ok-clause-runs_on
returns-in-Ok-clause-runs_on g c = c.in-Ok.ensures.runs_on

pub returns-in-Err-clause-runs_on : goal.returns-in-Err-clause-runs_on
returns-in-Err-clause-runs_on g c = c.in-Err.ensures.runs_on
