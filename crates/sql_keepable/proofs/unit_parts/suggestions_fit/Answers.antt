use Rattle.sql_keepable.specs.Keepable.{IsKeepableSuggestion}
use Rattle.sql_keepable.proofs.Lists.{one_more, walked}
use Rattle.sql_keepable.proofs.unit_parts.suggestions_fit.Goals as goal

pub loop-suggestion-preserved : goal.loop-suggestion-preserved
loop-suggestion-preserved c =
    one_more IsKeepableSuggestion c.args.suggestions.now c.loop-suggestion.suggestion-index c.suggestion-item.result c.loop-suggestion-test.true c.suggestion-item.is c.loop-suggestion.invariant
    c.suggestion_fits.ensures

pub returns : goal.returns
returns c = walked IsKeepableSuggestion c.args.suggestions.now c.loop-suggestion.suggestion-index c.loop-suggestion-test.false c.loop-suggestion.invariant
