-- What acts do to a unit's revision and to its suggestions. Suggestions and votes are those of Weblate's documentation ("Translation
-- workflows").
use Rattle.std.specs.Prelude.{◌≡◌, ℕ, List, ◌∷◌, ◌++◌, Bool, false, if◌then◌else◌, Option, Some, None, ⊤}
use Rattle.po_text.specs.Texts.{Text}
use Rattle.units.specs.declared.unit.Unit.{Unit}
use Rattle.units.specs.declared.unit.Suggestion.{Suggestion}
use Rattle.units.specs.declared.unit.UnitAction.{UnitAction}
use Rattle.units.specs.declared.unit.UnitAction.TheVariants.{Suggest, Vote, Accept, Dismiss, Translate, Comment, Approve, SendBack}
use Rattle.review.specs.declared.decision.Values.{Values}
use Rattle.review.specs.declared.decision.Values.TheVariants.{Plain, Suggested, Voted}

-- the reply to a vote tells that its suggestion was accepted
abbrev pub tells_acceptance : Values → Bool
tells_acceptance (Plain revision state) = false
tells_acceptance (Suggested revision state number votes) = false
tells_acceptance (Voted accepted revision state votes) = accepted

-- by how much an act that was answered with these values raises its unit's revision
abbrev pub rise : UnitAction → Values → ℕ
rise (Suggest forms) values = 0
rise (Vote named value) values = if tells_acceptance values then 1 else 0
rise (Accept named) values = 1
rise (Dismiss named) values = 0
rise (Translate forms) values = 1
rise (Comment lines) values = 1
rise Approve values = 1
rise SendBack values = 1

-- the number of the suggestion that it accepts, if it accepts one
abbrev pub accepted_by : UnitAction → Values → Option Text
accepted_by (Suggest forms) values = None
accepted_by (Vote named value) values = if tells_acceptance values then Some named else None
accepted_by (Accept named) values = Some named
accepted_by (Dismiss named) values = None
accepted_by (Translate forms) values = None
accepted_by (Comment lines) values = None
accepted_by Approve values = None
accepted_by SendBack values = None

-- the suggestion with this number gave the unit its forms, and alone is gone
pub record IsTaken (named : Text) (old new : Unit) : Type 0 where
  pub front : List Suggestion
  pub suggestion : Suggestion
  pub back : List Suggestion
  pub were : old.suggestions ≡ front ++ suggestion ∷ back
  pub number : suggestion.number ≡ named
  pub left : new.suggestions ≡ front ++ back
  pub forms : new.forms ≡ suggestion.forms

-- the acts that don't speak of suggestions
abbrev pub LeavesSuggestions : UnitAction → Type 0
LeavesSuggestions (Suggest forms) = ⊥
LeavesSuggestions (Vote named value) = ⊥
LeavesSuggestions (Accept named) = ⊥
LeavesSuggestions (Dismiss named) = ⊥
LeavesSuggestions (Translate forms) = ⊤
LeavesSuggestions (Comment lines) = ⊤
LeavesSuggestions Approve = ⊤
LeavesSuggestions SendBack = ⊤
