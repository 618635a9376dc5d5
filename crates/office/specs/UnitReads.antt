-- What an act on a unit finds in an office, and what it comes to by that. This project's own words, for inner functions.
use Rattle.std.specs.Prelude.{Option}
use Rattle.po_text.specs.Texts.{Text}
use Rattle.units.specs.Office.{Office, project_in}
use Rattle.units.specs.declared.unit.Key.{Key}
use Rattle.units.specs.declared.unit.UnitAct.{UnitAct}
use Rattle.request_book.specs.declared.act.Request.{Request}
use Rattle.office_specification.specs.declared.values.ActContext.{ActContext}
use Rattle.office_specification.specs.declared.values.UnitOutcome.{UnitOutcome}
use Rattle.office_specification.specs.UnitAccess.{context_of}
use Rattle.office_specification.specs.UnitOutcomes.{outcome_of, context_view, IsOutcomeBy}

-- all of it, the unit with its suggestions
abbrev pub found_for : Office → Text → Text → Key → Request → Option ActContext
found_for office domain lang key request = context_of (project_in office domain) lang key request.caller

-- What the request's act comes to where all of this is found, by whatever it was decided.
abbrev pub Decides : Option ActContext → Request → UnitAct → UnitOutcome → Type 0
Decides found request act = IsOutcomeBy (context_view found) (outcome_of found request.caller request.number act)
