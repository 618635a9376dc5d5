-- When the rows of sums are what counting gives: each suggestion has one, with the sum of the votes on it. This project's own rule.
use Rattle.std.specs.Prelude.{◌≡◌, List, filter, codes}
use Rattle.std.specs.FinMap as maps
use Rattle.sqlite.specs.declared.types.Value.TheVariants.{Int}
use Rattle.sqlite.specs.Order.{Row, column}
use Rattle.sqlite_rules.specs.Lists.{Has}
use Rattle.sql_laws.specs.RowMaps.{map_of}
use Rattle.po_text.specs.Texts.{Text, text_cmp}
use Rattle.units.specs.Units.{vote_sum}
use Rattle.units.specs.declared.votes.VoteValue.{VoteValue}
use Rattle.sql_schema.specs.Keys.{text_at, first_text, has_text}
use Rattle.sql_schema.specs.Layouts.{NamedRows}
use Rattle.sql_meaning.specs.Values.{vote_at}

-- the votes on a suggestion, whatever its domain
abbrev pub votes_among : List Row → Text → maps.FinMap text_cmp VoteValue
votes_among votes number = map_of text_cmp (text_at 2) (vote_at 3) (filter (has_text 1 number) votes)

-- a row of sums says so of the suggestion of a number
abbrev pub HasSum : List Row → List Row → Text → Type 0
HasSum votes sums number = (row : Row) × Has sums row × (first_text row ≡ number) × (column row 2 ≡ Int (vote_sum (votes_among votes number)))

abbrev pub HaveSums : NamedRows → Type 0
HaveSums rows = (s : Row) → Has (rows (codes "d_suggestion")) s → HasSum (rows (codes "d_vote")) (rows (codes "d_vote_sum")) (first_text s)
