use Rattle.std.proofs.Common.{take}
use Rattle.std.specs.Prelude.{All}
use Rattle.sql_keepable.specs.Keepable.{IsKeepableSuggestion}
use Rattle.sql_keepable.proofs.unit_parts.suggestions_fit.Given as goal

abbrev pub invariant-loop-suggestion : goal.invariant-loop-suggestion
invariant-loop-suggestion l = All IsKeepableSuggestion (take l.suggestion-index l.suggestions)
