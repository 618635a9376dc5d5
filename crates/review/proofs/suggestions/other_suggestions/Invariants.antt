use Rattle.std.proofs.Common.{◌≡◌, filter, not, take}
use Rattle.units.specs.Units.{has_number}
use Rattle.review.proofs.suggestions.other_suggestions.Given as goal

abbrev pub invariant-loop-suggestion : goal.invariant-loop-suggestion
invariant-loop-suggestion l = (l.suggestion-items ≡ l.unit.suggestions) × (l.others ≡ filter (λ s. not (has_number l.number s)) (take l.suggestion-index l.suggestion-items))
