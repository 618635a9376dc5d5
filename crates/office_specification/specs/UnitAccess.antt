-- What a read for a unit act finds, and what its commit writes: of the whole of a unit, or of what an act touches.
use Rattle.std.specs.Prelude.{◌≡◌, List, [], ◌∷◌, ◌++◌, map, Option, Some, option_map, option_and_then, IfSome}
use Rattle.std.specs.Option.{option_map_or}
use Rattle.std.specs.FinMap as maps
use Rattle.po_text.specs.Texts.{Text}
use Rattle.units.specs.Project.{Project, role_of, view_of, with_unit}
use Rattle.units.specs.Office.{Office, project_in, with_project}
use Rattle.units.specs.Rules.{rule_at}
use Rattle.units.specs.declared.unit.Key.{Key}
use Rattle.units.specs.Units.{suggestion_of, vote_sum}
use Rattle.units.specs.declared.unit.Suggestion.{Suggestion}
use Rattle.units.specs.declared.unit.UnitView.{UnitView}
use Rattle.review.specs.UnitStep.{set_vote, with_vote}
use Rattle.review.specs.Parts.{with_these, bare, without_votes}
use Rattle.office_specification.specs.declared.values.UnitWrite.{UnitWrite}
use Rattle.office_specification.specs.declared.values.UnitWrite.TheVariants.{Whole, Row, Suggested, Voted}
use Rattle.office_specification.specs.declared.values.ActContext.{ActContext}

-- none without the language
abbrev pub context_of : Project → Text → Key → Text → Option ActContext
context_of project lang key name =
    option_map (λ header. record { rule = rule_at project lang; policy = project.policy; role = role_of project name; view = view_of project (lang, key) }) (maps.get project.headers lang)

-- the project with a unit's new view, if there is one
abbrev pub with_view : Project → Text → Key → Option UnitView → Project
with_view project lang key view = option_map_or (λ v. with_unit project (lang, key) v.unit) view project

-- the office with a unit's new view in a domain, if there is one
abbrev pub with_view_in : Office → Text → Text → Key → Option UnitView → Office
with_view_in office domain lang key view = with_project office domain (with_view (project_in office domain) lang key view)

-- ---- what an act touches of a unit

-- what is found for it, without the unit's suggestions
abbrev pub without_suggestions : Option ActContext → Option ActContext
without_suggestions found = option_map {T = ActContext} (λ f. record f { view = option_map bare f.view }) found

-- the suggestions of the unit at a key, without the votes on them; none where there is no unit
abbrev pub suggestions_at : Project → Text → Key → List Suggestion
suggestions_at project lang key = option_map_or (λ unit. map without_votes unit.suggestions) (maps.get project.units (lang, key)) []

-- of these the one with a number, with the votes on it
abbrev pub suggestion_at : Project → Text → Key → Text → Option Suggestion
suggestion_at project lang key number = option_and_then (suggestion_of number) (maps.get project.units (lang, key))

-- what a write leaves of a unit that is there
abbrev pub view_written : UnitWrite → UnitView → UnitView
view_written (Whole view) there = view
view_written (Row view) there = with_these there.unit.suggestions view
view_written (Suggested s) there = with_these (there.unit.suggestions ++ s ∷ []) there
view_written (Voted number voter value sum) there = record there { unit = with_vote number voter value there.unit }

-- What a write takes for granted of the unit that is there: its template entry stays; a new suggestion has no votes; a vote is on a suggestion of the unit,
-- and the sum that comes with it is that of the votes then.
abbrev pub IsWriteOver : UnitView → UnitWrite → Type 0
IsWriteOver there (Whole view) = view.source ≡ there.source
IsWriteOver there (Row view) = view.source ≡ there.source
IsWriteOver there (Suggested s) = s.votes ≡ maps.empty
IsWriteOver there (Voted number voter value sum) = (s : Suggestion) × (suggestion_of number there.unit ≡ Some s) × (sum ≡ vote_sum (set_vote voter value s.votes))

-- the new view of the unit at a key, if something is written of it, and it is there
abbrev pub written_at : Project → Text → Key → Option UnitWrite → Option UnitView
written_at project lang key write = option_and_then (λ w. option_map (view_written w) (view_of project (lang, key))) write

-- what is written is of the unit that is there
abbrev pub IsPossibleWrite : Project → Text → Key → Option UnitWrite → Type 0
IsPossibleWrite project lang key write = IfSome write (λ w. (there : UnitView) × (view_of project (lang, key) ≡ Some there) × IsWriteOver there w)

-- the office with what is written of a domain's unit
abbrev pub with_write_in : Office → Text → Text → Key → Option UnitWrite → Office
with_write_in office domain lang key write = with_view_in office domain lang key (written_at (project_in office domain) lang key write)
