-- When the rows of tallies are what counting gives: each row is of a language that is there and holds its counts, and each language that is there has a
-- row. This project's own rule.
use Rattle.std.specs.Prelude.{◌≡◌, ℕ, List, [], ◌∷◌, Option, Some, None, IsSome}
use Rattle.sqlite.specs.Order.{Row}
use Rattle.sqlite_rules.specs.Lists.{Has}
use Rattle.po_text.specs.declared.entry.Entry.{Entry}
use Rattle.po_text.specs.Texts.{Text}
use Rattle.units.specs.Office.{Office, project_in}
use Rattle.units.specs.declared.unit.Unit.{Unit}
use Rattle.office_specification.specs.Counting.{none_counted}
use Rattle.office_specification.specs.declared.tally.Tally.{Tally}
use Rattle.office_specification.specs.Tally.{counts_of}
use Rattle.tables.specs.Tallies.{counted}
use Rattle.sql_schema.specs.Keys.{text_at, columns}
use Rattle.sql_meaning.specs.Cells.{tally_cells}

-- what the units of each language of each domain count; none where the language isn't there
abbrev pub Counts : Type 0
Counts = Text → Text → Option Tally

abbrev pub office_counts : Office → Counts
office_counts office domain lang = counts_of (project_in office domain) lang

-- what a unit counts, if it is there
abbrev pub counted_at : List Entry → Option Unit → Tally
counted_at template None = none_counted
counted_at template (Some unit) = counted template unit

-- the row is a language's
abbrev pub IsTallyOf : Text → Text → Row → Type 0
IsTallyOf domain lang row = (text_at 1 row ≡ domain) × (text_at 2 row ≡ lang)

-- domain, lang, untranslated, needs_editing, translated, approved, read_only, suggestions, obsolete
abbrev pub tally_columns : List ℕ
tally_columns = 1 ∷ 2 ∷ 3 ∷ 4 ∷ 5 ∷ 6 ∷ 7 ∷ 8 ∷ 9 ∷ []

abbrev pub HoldsTally : Tally → Row → Type 0
HoldsTally tally row = columns tally_columns row ≡ tally_cells (text_at 1 row) (text_at 2 row) tally

pub record AreTalliesOf (counts : Counts) (tallies : List Row) : Type 0 where
  pub counted : (row : Row) → Has tallies row → (tally : Tally) × HoldsTally tally row × (counts (text_at 1 row) (text_at 2 row) ≡ Some tally)
  pub all : (domain lang : Text) → IsSome (counts domain lang) → (row : Row) × Has tallies row × IsTallyOf domain lang row
