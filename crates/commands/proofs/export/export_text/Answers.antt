use Rattle.commands.specs.ExportLines.{ended}
use Rattle.commands.proofs.Exporting.{receipt_told, adds_nothing}
use Rattle.tables.proofs.RunsOn.{kept_runs_on}
use Rattle.commands.proofs.export.export_text.Goals as goal

pub returns-in-Ok-clause-printed : goal.returns-in-Ok-clause-printed
returns-in-Ok-clause-printed g c =
    receipt_told c.in-Ok.receipt c.tell_written.result c.in-Ok.ensures.text c.in-Ok.ensures.unfailed c.tell_written.ensures.told

pub returns-in-Err-clause-printed : goal.returns-in-Err-clause-printed
returns-in-Err-clause-printed g c =
    ended (record { fault = c.in-Err.fault; cut = c.in-Err.ensures.err; device = c.in-Err.ensures.device; disk = c.in-Err.ensures.kept.disk; told = c.tell_fault.ensures.told }) c.tell_fault.ensures.status

pub returns-in-Ok-clause-stops : goal.returns-in-Ok-clause-stops
returns-in-Ok-clause-stops g c = λ h. adds_nothing (c.in-Ok.ensures.kept.stops h)

pub returns-in-Err-clause-stops : goal.returns-in-Err-clause-stops
returns-in-Err-clause-stops g c = λ h. adds_nothing (c.in-Err.ensures.kept.stops h)

pub returns-in-Ok-clause-runs_on : goal.returns-in-Ok-clause-runs_on
returns-in-Ok-clause-runs_on g c = kept_runs_on c.in-Ok.ensures.kept

pub returns-in-Err-clause-runs_on : goal.returns-in-Err-clause-runs_on
returns-in-Err-clause-runs_on g c = kept_runs_on c.in-Err.ensures.kept
