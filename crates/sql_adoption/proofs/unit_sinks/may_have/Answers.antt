use Rattle.sql_adoption.proofs.NotedUnits.{may_none, may_some}
use Rattle.sql_adoption.proofs.unit_sinks.may_have.Goals as goal

pub returns-then-unit : goal.returns-then-unit
returns-then-unit c = may_none c.args.unit.now c.args.suggestions c.if-unit.true

pub returns-else-unit : goal.returns-else-unit
returns-else-unit c = may_some c.args.unit.now c.args.suggestions c.if-unit.false
