use Rattle.std.proofs.Common.{rules}
use Rattle.sql_commits.proofs.TalliesMoved.{counts_there, counts_nowhere}
use Rattle.sql_commits.proofs.unit_counts.counted_there.Goals as goal

pub returns-in-Some : goal.returns-in-Some
returns-in-Some c = counts_there c.args.source.now c.args.there.now c.in-Some.values c.counted_so.result (search rules) c.counted_so.ensures

pub returns-in-None : goal.returns-in-None
returns-in-None c = counts_nowhere c.args.source.now c.args.there.now c.none.result (search rules) c.none.ensures
