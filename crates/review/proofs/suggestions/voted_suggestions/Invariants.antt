use Rattle.std.proofs.Common.{◌≡◌, map, take, if◌then◌else◌}
use Rattle.units.specs.Units.{has_number}
use Rattle.review.specs.UnitStep.{set_vote}
use Rattle.review.proofs.suggestions.voted_suggestions.Given as goal

abbrev pub invariant-loop-suggestion : goal.invariant-loop-suggestion
invariant-loop-suggestion l =
    (l.suggestion-items ≡ l.unit.suggestions) × (l.all ≡ map (λ s. if has_number l.number s then record s { votes = set_vote l.caller l.value s.votes } else s) (take l.suggestion-index l.suggestion-items))
