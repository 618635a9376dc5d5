-- What was found for an act on a unit, with other suggestions on the unit, and what is written of it, by what the act came to. This project's own words, for
-- inner functions.
use Rattle.std.specs.Prelude.{List, Option, Some, None, option_map, slice_get, ℤ}
use Rattle.std.specs.Option.{option_map_or}
use Rattle.po_text.specs.Texts.{Text}
use Rattle.units.specs.Units.{vote_sum}
use Rattle.units.specs.declared.unit.Suggestion.{Suggestion}
use Rattle.units.specs.declared.unit.UnitView.{UnitView}
use Rattle.units.specs.declared.votes.VoteValue.{VoteValue}
use Rattle.review.specs.Parts.{with_these}
use Rattle.office_specification.specs.declared.values.ActContext.{ActContext}
use Rattle.office_specification.specs.declared.values.Outcome.{Outcome}
use Rattle.office_specification.specs.declared.values.UnitOutcome.{UnitOutcome}
use Rattle.office_specification.specs.declared.values.UnitWrite.TheVariants.{Whole, Row, Voted}

-- what was found, if anything was, with these suggestions on the unit, if it is there
abbrev pub shown : List Suggestion → Option ActContext → Option ActContext
shown suggestions found = option_map {T = ActContext} (λ f. record f { view = option_map (with_these suggestions) f.view }) found

-- ---- what is written

-- the whole
abbrev pub of_whole : Outcome → UnitOutcome
of_whole outcome = record { write = option_map Whole outcome.view; reply = outcome.reply }

-- all but the suggestions
abbrev pub of_row : Outcome → UnitOutcome
of_row outcome = record { write = option_map Row outcome.view; reply = outcome.reply }

-- the sum of the votes on the first suggestion, if there is any
abbrev pub first_sum : UnitView → Option ℤ
first_sum view = option_map (λ s. vote_sum s.votes) (slice_get view.unit.suggestions 0)

-- a vote, with the sum on the one suggestion that the unit is shown with; none where that isn't there any more
abbrev pub of_vote : Text → Text → Option VoteValue → Outcome → Option UnitOutcome
of_vote named voter value outcome =
    option_map_or (λ view. option_map (λ sum. record { write = Some (Voted named voter value sum); reply = outcome.reply }) (first_sum view))
    outcome.view (Some (record { write = None; reply = outcome.reply }))
