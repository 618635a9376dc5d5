use Rattle.std.proofs.Common.{refl}
use Rattle.commands.specs.Gathering.{flushed, held}
use Rattle.store_commands.proofs.runs.export_whole.Goals as goal

pub returns-in-Ok-clause-printed : goal.returns-in-Ok-clause-printed
returns-in-Ok-clause-printed g c = flushed _ c.export_text-status.ensures.printed (c.in-Ok.ensures.sent, c.in-Ok.ensures.handed_on)

pub returns-in-Err-clause-printed : goal.returns-in-Err-clause-printed
returns-in-Err-clause-printed g c = held _ c.export_text-status.result c.export_text-status.ensures.printed c.in-Err.ensures.sent refl

pub returns-in-Ok-clause-runs_on : goal.returns-in-Ok-clause-runs_on
returns-in-Ok-clause-runs_on g c = c.export_text-status.ensures.runs_on

pub returns-in-Err-clause-runs_on : goal.returns-in-Err-clause-runs_on
returns-in-Err-clause-runs_on g c = c.export_text-status.ensures.runs_on
