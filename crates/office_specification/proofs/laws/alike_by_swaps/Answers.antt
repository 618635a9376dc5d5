use Rattle.office_specification.proofs.commuting.Swaps.{alike_swaps, swaps_alike}
use Rattle.office_specification.proofs.laws.alike_by_swaps.Goals as goal

pub returns-clause-swaps : goal.returns-clause-swaps
returns-clause-swaps c = alike_swaps

pub returns-clause-alike : goal.returns-clause-alike
returns-clause-alike c = λ xs ys swaps. swaps_alike ys xs swaps
