-- A suggestion of a domain that is added, and the votes on it; and one vote. Only private clauses and proofs cite this file.
use Rattle.std.specs.Prelude.{◌≡◌, ℕ, ◌+◌, ℤ, pos, int_lt, true, List, [], ◌∷◌, map, Option, Some, None, codes}
use Rattle.sqlite.specs.declared.types.Value.TheVariants.{Int, Text as Words}
use Rattle.sqlite.specs.Effect.{Database}
use Rattle.sqlite.specs.Order.{Row, column}
use Rattle.sqlite_rules.specs.Lists.{Has}
use Rattle.po_text.specs.Texts.{Text}
use Rattle.units.specs.declared.votes.VoteValue.{VoteValue}
use Rattle.sql_schema.specs.Keys.{text_at, first_text, first_texts}
use Rattle.sql_schema.specs.Layouts.{NamedRows, rows_named}
use Rattle.sql_meaning.specs.Cells.{vote_cells}
use Rattle.sql_schema.specs.Inside.{HoldsValues, PutsRow}
use Rattle.sql_meaning.specs.RowChanges.{AddsIn}
use Rattle.sql_statements.specs.DomainVotes.{TakesVote}
use Rattle.sql_meaning.specs.Written.{PutsRows}
use Rattle.sql_changes.specs.OnDomains.{OnDomain}

-- the suggestion of a number is there, and of a domain
abbrev pub HasSuggestion : Text → Text → NamedRows → Type 0
HasSuggestion domain number rows = (s : Row) × Has (rows (codes "d_suggestion")) s × (text_at 2 s ≡ domain) × (first_text s ≡ number)

-- where it is, the votes on it are put, and it is there afterwards
abbrev pub PutsVotesOn : Text → Text → List (Text × VoteValue) → Database → Database → Type 0
PutsVotesOn domain number votes old new =
    HasSuggestion domain number (rows_named old) → OnDomain domain (PutsRows (codes "vote") first_texts (map (vote_cells number) votes)) old new × HasSuggestion domain number (rows_named new)

-- the suggestion's row is added, with its sum, and it is there afterwards
abbrev pub AddsSummed : (domain number lang key : Text) → ℤ → (suggester forms : Text) → Database → Database → Type 0
AddsSummed domain number lang key place suggester forms old new =
    OnDomain domain (AddsIn (codes "suggestion") first_text (HoldsValues (Words number ∷ Words lang ∷ Words key ∷ Int place ∷ Words suggester ∷ Words forms ∷ []))) old new
    × HasSuggestion domain number (rows_named new)

-- a voter's vote on the suggestion of a number is put, or taken away
abbrev pub PutsVoteRow : Text → Text → Option VoteValue → Database → Database → Type 0
PutsVoteRow number voter (Some value) = PutsRow (codes "d_vote") first_texts (HoldsValues (vote_cells number (voter, value)))
PutsVoteRow number voter None = TakesVote number voter

-- each of the places that rows show is before this one
abbrev pub ArePlacesBefore : ℕ → List Row → Type 0
ArePlacesBefore place rows = (row : Row) → Has rows row → (at : ℤ) → column row 0 ≡ Int at → int_lt at (pos place) ≡ true

-- a row shows the place before this one
abbrev pub IsPlaceBehind : Row → ℕ → Type 0
IsPlaceBehind row place = (at : ℕ) × (column row 0 ≡ Int (pos at)) × (place ≡ at + 1)
