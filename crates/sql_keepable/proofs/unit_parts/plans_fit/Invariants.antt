use Rattle.std.proofs.Common.{take}
use Rattle.std.specs.Prelude.{All}
use Rattle.sql_keepable.specs.Keepable.{IsKeepablePlan}
use Rattle.sql_keepable.proofs.unit_parts.plans_fit.Given as goal

abbrev pub invariant-loop-plan : goal.invariant-loop-plan
invariant-loop-plan l = All IsKeepablePlan (take l.plan-index l.plans)
