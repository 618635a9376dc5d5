-- What is written of the figures that are kept beside the office's rows, sums of votes and tallies, and how they follow an act.
use Rattle.std.specs.Prelude.{◌≡◌, ℤ, Bool, true, false, [], ◌∷◌, Option, Some, None, codes}
use Rattle.std.specs.FinMap as maps
use Rattle.sqlite.specs.declared.types.Value.TheVariants.{Int, Text as Words}
use Rattle.sqlite.specs.Effect.{Database}
use Rattle.po_text.specs.Texts.{Text}
use Rattle.units.specs.Project.{Project, entry_of, view_of}
use Rattle.units.specs.declared.unit.Key.{Key}
use Rattle.units.specs.declared.unit.Suggestion.{Suggestion}
use Rattle.units.specs.declared.unit.Policy.{Policy}
use Rattle.units.specs.declared.unit.UnitView.{UnitView}
use Rattle.units.specs.declared.votes.VoteValue.{VoteValue}
use Rattle.office_specification.specs.declared.tally.Tally.{Tally}
use Rattle.office_specification.specs.UnitAccess.{view_written, IsWriteOver}
use Rattle.office_specification.specs.declared.values.UnitWrite.{UnitWrite}
use Rattle.office_specification.specs.declared.values.UnitWrite.TheVariants.{Whole, Row, Suggested, Voted}
use Rattle.office_specification.specs.declared.values.Change.{Change}
use Rattle.office_specification.specs.declared.values.Change.TheVariants.{OneRole, NewPolicy, NewDomain, InDomain}
use Rattle.office_specification.specs.declared.values.DomainChange.{DomainChange}
use Rattle.office_specification.specs.declared.values.DomainChange.TheVariants.{NewLanguage, NewTemplate}
use Rattle.tables.specs.Tallies.{counted}
use Rattle.sql_schema.specs.Inside.{PutsRow, HoldsValues, Then}
use Rattle.sql_schema.specs.Keys.{first_text, key_texts}
use Rattle.sql_schema.specs.Layouts.{rows_named}
use Rattle.sql_statements.specs.Added.{AddsRow}
use Rattle.sql_statements.specs.DomainRenewed.{HaveNextRevisionsInDomains}
use Rattle.sql_meaning.specs.Cells.{tally_cells}
use Rattle.sql_meaning.specs.Domains.{is_domain, project_seen}
use Rattle.sql_figures.specs.KeptTallies.{Counts, counted_at}
use Rattle.sql_figures.specs.Figures.{with_tally, with_tallies, moved_at, turned, HaveRoom, FiguresFollowWhere, FiguresFollow, FiguresStay}

-- ---- rows that are written

-- a language's tally
abbrev pub PutsTally : Text → Text → Tally → Database → Database → Type 0
PutsTally domain lang tally = PutsRow (codes "d_tally") (key_texts (1 ∷ 2 ∷ [])) (HoldsValues (tally_cells domain lang tally))

-- a suggestion's sum
abbrev pub PutsSum : Text → ℤ → Database → Database → Type 0
PutsSum number sum = PutsRow (codes "d_vote_sum") first_text (HoldsValues (Words number ∷ Int sum ∷ []))

-- a suggestion of this number is added, and then its sum
abbrev pub AddsWithSum : Text → ℤ → Database → Database → Type 0
AddsWithSum number sum = Then (AddsRow (codes "d_suggestion") first_text (λ row. first_text row ≡ number)) (PutsSum number sum)

-- ---- an act on a unit

abbrev pub project_at : Text → Database → Project
project_at domain db = project_seen domain (rows_named db)

-- the view's entry is the template's of its unit's key
abbrev pub IsSourceIn : Project → UnitView → Type 0
IsSourceIn project view = view.source ≡ entry_of project.template view.unit.key

-- what the unit at the place of this one counts
abbrev pub counted_before : Project → Text → UnitView → Tally
counted_before project lang view = counted_at project.template (maps.get project.units (lang, view.unit.key))

-- the language of a domain's project counts the unit no more as it was, and as it is
abbrev pub FollowsUnit : Text → Project → Text → UnitView → Database → Database → Type 0
FollowsUnit domain project lang view old new =
    IsSourceIn project view → FiguresFollow (moved_at domain lang (counted_before project lang view) (counted project.template view.unit)) old new

abbrev pub FollowsView : Text → Text → UnitView → Database → Database → Type 0
FollowsView domain lang view old = FollowsUnit domain (project_at domain old) lang view old

-- the same where the row is written alone: the unit counts as many suggestions as it did
abbrev pub FollowsRow : Text → Project → Text → Key → UnitView → Database → Database → Type 0
FollowsRow domain project lang key view old new =
    (there : UnitView) → view_of project (lang, key) ≡ Some there → view.unit.key ≡ key → view.source ≡ there.source
    → FiguresFollow (moved_at domain lang (counted project.template there.unit) (counted project.template (view_written (Row view) there).unit)) old new

-- whatever key is asked for
abbrev pub FollowsOwnRow : Text → Text → UnitView → Database → Database → Type 0
FollowsOwnRow domain lang view old new = (key : Key) → FollowsRow domain (project_at domain old) lang key view old new

-- a suggestion more on a unit that is there is one more of those that its language counts, unless the unit is obsolete
abbrev pub FollowsSuggestion : Text → Project → Text → Key → Suggestion → Database → Database → Type 0
FollowsSuggestion domain project lang key s old new =
    (there : UnitView) → view_of project (lang, key) ≡ Some there
    → FiguresFollow (moved_at domain lang (counted project.template there.unit) (counted project.template (view_written (Suggested s) there).unit)) old new

abbrev pub FollowsSuggestionAt : Text → Text → Key → Suggestion → Database → Database → Type 0
FollowsSuggestionAt domain lang key s old = FollowsSuggestion domain (project_at domain old) lang key s old

-- whatever the suggestion
abbrev pub FollowsOneMore : Text → Text → Key → Database → Database → Type 0
FollowsOneMore domain lang key old new = (s : Suggestion) → FollowsSuggestionAt domain lang key s old new

-- a vote changes the sum of its suggestion, if that is what the votes sum up to then, and no count
abbrev pub FollowsVote : Project → Text → Key → UnitWrite → Database → Database → Type 0
FollowsVote project lang key write old new = (there : UnitView) → view_of project (lang, key) ≡ Some there → IsWriteOver there write → FiguresStay old new

abbrev pub FollowsVoteAt : Text → Text → Key → Text → Text → Option VoteValue → ℤ → Database → Database → Type 0
FollowsVoteAt domain lang key number voter value sum old = FollowsVote (project_at domain old) lang key (Voted number voter value sum) old

-- what an act writes of the unit at a key, of the domain's project
abbrev pub FollowsWriteIn : Text → Project → Text → Key → UnitWrite → Database → Database → Type 0
FollowsWriteIn domain project lang key (Whole view) = FollowsUnit domain project lang view
FollowsWriteIn domain project lang key (Row view) = FollowsRow domain project lang key view
FollowsWriteIn domain project lang key (Suggested s) = FollowsSuggestion domain project lang key s
FollowsWriteIn domain project lang key (Voted number voter value sum) = FollowsVote project lang key (Voted number voter value sum)

abbrev pub FollowsWrite : Text → Text → Key → UnitWrite → Database → Database → Type 0
FollowsWrite domain lang key write old = FollowsWriteIn domain (project_at domain old) lang key write old

-- where the domain isn't there, nothing is counted
abbrev pub FollowsIf : Bool → (Database → Database → Type 0) → Database → Database → Type 0
FollowsIf true Follows = Follows
FollowsIf false Follows = FiguresStay

abbrev pub FollowsIn : Text → (Database → Database → Type 0) → Database → Database → Type 0
FollowsIn domain Follows old new = FollowsIf (is_domain (rows_named old) domain) Follows old new

abbrev pub FollowsAct : Text → Text → Key → Option UnitWrite → Database → Database → Type 0
FollowsAct domain lang key None = FiguresStay
FollowsAct domain lang key (Some write) = FollowsIn domain (FollowsWrite domain lang key write)

-- ---- a change of the office

-- a new language counts what its tally says, and so do those of a new template
abbrev pub FollowsDomainChange : Text → DomainChange → Database → Database → Type 0
FollowsDomainChange domain (NewLanguage lang language plan tally) = FiguresFollow (with_tally domain lang tally)
FollowsDomainChange domain (NewTemplate template plans tallies) = FiguresFollow (with_tallies domain tallies.items)

abbrev pub turned_unless : Bool → Counts → Counts
turned_unless true counts = counts
turned_unless false counts = turned counts

-- where 64 bits hold the revision after that of each approved unit, and the sum of what each language has translated and approved
abbrev pub FollowsPolicy : Policy → Database → Database → Type 0
FollowsPolicy policy old new = HaveNextRevisionsInDomains old → FiguresFollowWhere HaveRoom (turned_unless policy.reviews) old new

abbrev pub FollowsOneChange : Change → Database → Database → Type 0
FollowsOneChange (OneRole name role) = FiguresStay
FollowsOneChange (NewPolicy policy) = FollowsPolicy policy
FollowsOneChange (NewDomain domain) = FiguresStay
FollowsOneChange (InDomain domain change) = FollowsIn domain (FollowsDomainChange domain change)

abbrev pub FollowsChange : Option Change → Database → Database → Type 0
FollowsChange None = FiguresStay
FollowsChange (Some change) = FollowsOneChange change
