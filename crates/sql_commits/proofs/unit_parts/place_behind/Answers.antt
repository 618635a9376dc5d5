use Rattle.std.proofs.Common.{refl, rules}
use Rattle.sql_commits.proofs.unit_parts.place_behind.Goals as goal

pub returns-then-place-lt-LAST_PLACE-clause-next : goal.returns-then-place-lt-LAST_PLACE-clause-next
returns-then-place-lt-LAST_PLACE-clause-next c = (c.in-Some.place, (c.natural_in.ensures c.in-Some.place).0 (search rules), refl)
