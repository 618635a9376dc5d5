use Rattle.std.proofs.Common.{rules}
use Rattle.views.proofs.language_counts.counts_map.Goals as goal

pub returns : goal.returns
returns c = search rules
