-- Views with other suggestions than their unit has: an act needs to see some of them, or none. This project's own words.
use Rattle.std.specs.Prelude.{List, [], ◌∷◌, Bool, true, false, Option, Some, None}
use Rattle.std.specs.FinMap as maps
use Rattle.units.specs.declared.unit.Suggestion.{Suggestion}
use Rattle.units.specs.declared.unit.UnitView.{UnitView}
use Rattle.units.specs.declared.unit.UnitAction.{UnitAction}
use Rattle.units.specs.declared.unit.UnitAction.TheVariants.{Suggest, Vote, Accept, Dismiss, Translate, Comment, Approve, SendBack}
use Rattle.review.specs.declared.decision.Values.{Values}
use Rattle.review.specs.declared.decision.Values.TheVariants.{Plain, Suggested, Voted}
use Rattle.review.specs.declared.decision.Decision.{Decision}
use Rattle.review.specs.declared.decision.Decision.TheVariants.{Done, Refused}

-- the view of a unit that has these suggestions, and is the same otherwise
abbrev pub with_these : List Suggestion → UnitView → UnitView
with_these suggestions view = record view { unit = record view.unit { suggestions = suggestions } }

-- of a unit that has none
abbrev pub bare : UnitView → UnitView
bare view = with_these [] view

-- the suggestion, on which nobody has voted
abbrev pub without_votes : Suggestion → Suggestion
without_votes s = record s { votes = maps.empty }

-- one suggestion, or none
abbrev pub at_most_one : Option Suggestion → List Suggestion
at_most_one None = []
at_most_one (Some s) = s ∷ []

-- ---- what an act needs to see

-- the act is on its unit's own values, and looks at none of its suggestions
abbrev pub is_of_row : UnitAction → Bool
is_of_row (Suggest forms) = false
is_of_row (Vote named value) = false
is_of_row (Accept named) = false
is_of_row (Dismiss named) = false
is_of_row (Translate forms) = true
is_of_row (Comment lines) = true
is_of_row Approve = true
is_of_row SendBack = true

abbrev pub is_suggest : UnitAction → Bool
is_suggest (Suggest forms) = true
is_suggest (Vote named value) = false
is_suggest (Accept named) = false
is_suggest (Dismiss named) = false
is_suggest (Translate forms) = false
is_suggest (Comment lines) = false
is_suggest Approve = false
is_suggest SendBack = false

-- by the act a suggestion is accepted that is voted on
abbrev pub is_accepting : Values → Bool
is_accepting (Plain revision state) = false
is_accepting (Suggested revision state suggestion votes) = false
is_accepting (Voted accepted revision state votes) = accepted

abbrev pub accepts_voted : Decision → Bool
accepts_voted (Done view values) = is_accepting values
accepts_voted (Refused refusal) = false
