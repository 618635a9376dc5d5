-- What a unit act comes to, by what was found for it, of the whole of its unit or of what it touches. No clause of a desk cites this file; `Step` has the
-- definition that counts.
use Rattle.std.specs.Prelude.{◌≡◌, Bool, false, not, ◌&&◌, Option, Some, None, is_none, option_map, option_and_then, IfSome}
use Rattle.std.specs.Option.{option_map_or}
use Rattle.po_text.specs.Texts.{Text}
use Rattle.units.specs.declared.unit.UnitAct.{UnitAct}
use Rattle.units.specs.declared.unit.Refusal.{Refusal}
use Rattle.units.specs.declared.unit.Refusal.TheVariants.{NoLanguage, NoUnit}
use Rattle.review.specs.declared.decision.Decision.{Decision}
use Rattle.review.specs.declared.decision.Decision.TheVariants.{Done, Refused}
use Rattle.review.specs.UnitStep.{unit_step, early_refusals, first_refusal}
use Rattle.review.specs.Parts.{is_of_row, accepts_voted}
use Rattle.office_specification.specs.declared.values.ActContext.{ActContext}
use Rattle.office_specification.specs.declared.values.Outcome.{Outcome}
use Rattle.office_specification.specs.declared.values.UnitOutcome.{UnitOutcome}
use Rattle.office_specification.specs.UnitAccess.{view_written, IsWriteOver}
use Rattle.units.specs.declared.unit.UnitView.{UnitView}
use Rattle.replies.specs.Bodies.{refused, done}

-- no view is written
abbrev pub refusing : Refusal → Outcome
refusing refusal = record { view = None; reply = refused refusal }

abbrev pub outcome_of_decision : Decision → Outcome
outcome_of_decision (Done view values) = record { view = Some view; reply = done values }
outcome_of_decision (Refused refusal) = refusing refusal

abbrev outcome_with : Text → Text → UnitAct → ActContext → Outcome
outcome_with caller number act found =
    option_map_or (λ view. outcome_of_decision (unit_step found.policy found.rule found.role caller number view act)) found.view (refusing NoUnit)

-- nothing is found where there is no such language
abbrev pub outcome_of : Option ActContext → Text → Text → UnitAct → Outcome
outcome_of found caller number act = option_map_or (outcome_with caller number act) found (refusing NoLanguage)

-- ---- by what an act touches

-- the view that was found, if the unit is there
abbrev pub context_view : Option ActContext → Option UnitView
context_view found = option_and_then (λ f. f.view) found

-- whether an act can't be decided without suggestions of its unit: it isn't on the unit's own values, and none of the refusals applies that every act has
abbrev pub needs_suggestions : Option ActContext → UnitAct → Bool
needs_suggestions found act =
    option_map_or (λ f. option_map_or (λ view. not (is_of_row act.action) && is_none (first_refusal (early_refusals f.policy f.rule f.role view act))) f.view false) found false

-- whether a suggestion is accepted by the vote on it
abbrev pub accepts_found : Option ActContext → Text → Text → UnitAct → Bool
accepts_found found caller number act =
    option_map_or (λ f. option_map_or (λ view. accepts_voted (unit_step f.policy f.rule f.role caller number view act)) f.view false) found false

-- What an act comes to where it is decided by what it touches of its unit, and what it comes to where it is decided by the whole, are the same: the reply, and the
-- unit's new view.
pub record IsOutcomeBy (there : Option UnitView) (whole : Outcome) (outcome : UnitOutcome) : Type 0 where
  pub reply : outcome.reply ≡ whole.reply
  pub view : option_and_then (λ w. option_map (view_written w) there) outcome.write ≡ whole.view
  pub over : IfSome outcome.write (λ w. (view : UnitView) × (there ≡ Some view) × IsWriteOver view w)
