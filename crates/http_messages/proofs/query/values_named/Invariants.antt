use Rattle.std.proofs.Common.{take}
use Rattle.http_messages.specs.Queries.{values_named}
use Rattle.http_messages.specs.Pairs.{pairs_at, AreNamed}
use Rattle.http_messages.proofs.query.values_named.Given as goal

abbrev pub invariant-loop-other : goal.invariant-loop-other
invariant-loop-other l = AreNamed l.found (values_named l.name (pairs_at (take l.other-index l.pairs)))
