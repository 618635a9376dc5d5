use Rattle.std.proofs.Common.{◌∙◌}
use Rattle.sql_adoption.proofs.NotedUnits.{natural_told}
use Rattle.sql_adoption.proofs.unit_sinks.told_at.Goals as goal

pub returns : goal.returns
returns c = c.unwrap_or.ensures ∙ natural_told c.args.at c.args.row.now c.natural_in.result c.natural_in.ensures
