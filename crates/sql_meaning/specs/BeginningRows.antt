-- What new tables are filled with, by the names of the tables, wherever these are: the rows of an opening, and those of the demo.
use Rattle.std.specs.Prelude.{◌≡◌, ℤ, pos, [], ◌∷◌, codes}
use Rattle.std.specs.FinMap as maps
use Rattle.sqlite.specs.declared.types.Value.TheVariants.{Int, Text as Words}
use Rattle.po_text.specs.Texts.{Text}
use Rattle.units.specs.Office.{Office}
use Rattle.units.specs.Openings.{plain_entry, demo_header, demo_unit}
use Rattle.sql_columns.specs.Written.{header_text}
use Rattle.sql_schema.specs.Creation.{HaveNoRows}
use Rattle.sql_schema.specs.Inside.{PutsIn, HoldsValues, Then}
use Rattle.sql_schema.specs.Keys.{first_text, first_texts, row_number}
use Rattle.sql_schema.specs.Layouts.{NamedRows}
use Rattle.sql_meaning.specs.Beginnings.{closed_row, hello_row}
use Rattle.sql_meaning.specs.Cells.{unit_cells}
use Rattle.sql_meaning.specs.Meaning.{meaning_in, AreNumbered}

-- afterwards no name has a row
abbrev pub HasNone : NamedRows → NamedRows → Type 0
HasNone old new = HaveNoRows new

abbrev pub PutsMemberIn : Text → ℤ → NamedRows → NamedRows → Type 0
PutsMemberIn name role = PutsIn (codes "team") first_text (HoldsValues (Words name ∷ Int role ∷ []))

abbrev pub PutsClosedPolicyIn : NamedRows → NamedRows → Type 0
PutsClosedPolicyIn = PutsIn (codes "policy") row_number (λ row. row ≡ closed_row)

abbrev pub MakesOpeningIn : Text → NamedRows → NamedRows → Type 0
MakesOpeningIn name = Then HasNone (Then (PutsMemberIn name (pos 3)) PutsClosedPolicyIn)

-- ---- the demo

abbrev pub PutsDemoTeamIn : NamedRows → NamedRows → Type 0
PutsDemoTeamIn = Then (PutsMemberIn (codes "root") (pos 3)) (PutsMemberIn (codes "ann") (pos 1))

abbrev pub PutsDemoEntryIn : NamedRows → NamedRows → Type 0
PutsDemoEntryIn = PutsIn (codes "template") row_number (λ row. row ≡ hello_row)

abbrev pub PutsDemoLanguageIn : NamedRows → NamedRows → Type 0
PutsDemoLanguageIn =
    PutsIn (codes "language") first_text
    (HoldsValues (Words (codes "de") ∷ Words (header_text (plain_entry [] demo_header)) ∷ Words (codes "nplurals=2; plural=n != 1;") ∷ []))

abbrev pub PutsDemoUnitIn : NamedRows → NamedRows → Type 0
PutsDemoUnitIn = PutsIn (codes "unit") first_texts (HoldsValues (unit_cells (codes "de") demo_unit))

abbrev pub PutsDemoMessageIn : NamedRows → NamedRows → Type 0
PutsDemoMessageIn = Then PutsDemoEntryIn (Then PutsDemoLanguageIn PutsDemoUnitIn)

abbrev pub MakesDemoIn : NamedRows → NamedRows → Type 0
MakesDemoIn = Then HasNone (Then PutsDemoTeamIn (Then PutsClosedPolicyIn PutsDemoMessageIn))

-- the rows are those of this office, of which nothing is recorded
abbrev pub MeansOnly : Office → NamedRows → NamedRows → Type 0
MeansOnly office old new = (meaning_in new ≡ record { office = office; book = maps.empty }) × AreNumbered new
