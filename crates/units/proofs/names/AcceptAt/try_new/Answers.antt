use Rattle.std.proofs.Common.{rules}
use Rattle.units.proofs.names.AcceptAt.try_new.Goals as goal

pub invariant_of-result : goal.invariant_of-result
invariant_of-result c = search rules

pub returns-then-sum-le-ACCEPT_AT_LIMIT : goal.returns-then-sum-le-ACCEPT_AT_LIMIT
returns-then-sum-le-ACCEPT_AT_LIMIT c = search rules
