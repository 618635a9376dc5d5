use Rattle.std.proofs.Common.{ap}
use Rattle.review.specs.UnitStep.{is_vote, named_by}
use Rattle.review.specs.Parts.{is_suggest}
use Rattle.office.proofs.delivery.decide_with_suggestions.Goals as goal

pub decide_suggestion-requires-clause-suggest : goal.decide_suggestion-requires-clause-suggest
decide_suggestion-requires-clause-suggest g c = ap is_suggest c.in-Suggest.is

pub decide_vote_or_acceptance-requires-clause-vote : goal.decide_vote_or_acceptance-requires-clause-vote
decide_vote_or_acceptance-requires-clause-vote g c = ap is_vote c.in-Vote.is

pub decide_vote_or_acceptance-requires-clause-named : goal.decide_vote_or_acceptance-requires-clause-named
decide_vote_or_acceptance-requires-clause-named g c = ap named_by c.in-Vote.is
