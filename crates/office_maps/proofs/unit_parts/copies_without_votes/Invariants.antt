use Rattle.std.proofs.Common.{◌≡◌, map, take}
use Rattle.review.specs.Parts.{without_votes}
use Rattle.office_maps.proofs.unit_parts.copies_without_votes.Given as goal

abbrev pub invariant-loop-suggestion : goal.invariant-loop-suggestion
invariant-loop-suggestion l = l.all ≡ map without_votes (take l.suggestion-index l.suggestions)
