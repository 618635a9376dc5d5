use Rattle.std.proofs.Common.{refl, rules}
use Rattle.commands.specs.Gathering.{flushed, held}
use Rattle.commands.proofs.deliver.finish.Goals as goal

pub returns-in-Ok-clause-finished : goal.returns-in-Ok-clause-finished
returns-in-Ok-clause-finished g c = flushed _ c.export_named-status.ensures.exported (search rules, c.in-Ok.ensures.handed_on)

pub returns-in-Err-clause-finished : goal.returns-in-Err-clause-finished
returns-in-Err-clause-finished g c = held _ c.export_named-status.result c.export_named-status.ensures.exported (search rules) refl

pub returns-in-Ok-clause-runs_on : goal.returns-in-Ok-clause-runs_on
returns-in-Ok-clause-runs_on g c = c.export_named-status.ensures.runs_on

pub returns-in-Err-clause-runs_on : goal.returns-in-Err-clause-runs_on
returns-in-Err-clause-runs_on g c = c.export_named-status.ensures.runs_on

pub returns-in-Ok-clause-stops : goal.returns-in-Ok-clause-stops
returns-in-Ok-clause-stops g c = c.export_named-status.ensures.stops

pub returns-in-Err-clause-stops : goal.returns-in-Err-clause-stops
returns-in-Err-clause-stops g c = c.export_named-status.ensures.stops
