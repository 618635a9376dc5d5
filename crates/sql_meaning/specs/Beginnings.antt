-- What new tables are filled with: the domain `main`, and the rows of an opening, or those of the demo. This project's own.
use Rattle.std.specs.Prelude.{◌≡◌, ℤ, pos, [], ◌∷◌, None, codes, IsTrue}
use Rattle.sqlite.specs.declared.types.Value.TheVariants.{Null, Int, Text as Words}
use Rattle.sqlite.specs.Order.{Row}
use Rattle.sqlite.specs.Effect.{Database}
use Rattle.sqlite.specs.State.{State, HasCleanDisk}
use Rattle.po_text.specs.Texts.{Text}
use Rattle.units.specs.Office.{main}
use Rattle.units.specs.Openings.{plain_entry, demo_header, demo_unit, demo_domain}
use Rattle.office_specification.specs.Tally.{counts_in}
use Rattle.sql_columns.specs.Written.{texts_text, header_text}
use Rattle.sql_schema.specs.Creation.{IsBlank, MakesTables}
use Rattle.sql_schema.specs.Inside.{PutsRow, HoldsValues, Then}
use Rattle.sql_schema.specs.Keys.{key_texts, first_text, first_three, row_number, domain_place}
use Rattle.sql_schema.specs.Rows.{text_or_null}
use Rattle.sql_meaning.specs.Cells.{unit_cells, tally_cells}

-- a domain's name
abbrev pub PutsDomain : Text → Database → Database → Type 0
PutsDomain domain = PutsRow (codes "domain") first_text (HoldsValues (Words domain ∷ []))

-- the one domain
abbrev pub PutsMain : Database → Database → Type 0
PutsMain = PutsDomain main

-- the tables, with it
abbrev pub MakesMainTables : Database → Database → Type 0
MakesMainTables = Then MakesTables PutsMain

abbrev pub PutsMember : Text → ℤ → Database → Database → Type 0
PutsMember name role = PutsRow (codes "team") first_text (HoldsValues (Words name ∷ Int role ∷ []))

-- the third form of the tables, and a policy that allows nothing but translations
abbrev pub closed_row : Row
closed_row = Int (pos 1) ∷ Null ∷ Int (pos 3) ∷ Int (pos 0) ∷ Int (pos 0) ∷ Int (pos 0) ∷ Int (pos 0) ∷ Int (pos 0) ∷ Int (pos 0) ∷ []

abbrev pub PutsClosedPolicy : Database → Database → Type 0
PutsClosedPolicy = PutsRow (codes "policy") row_number (λ row. row ≡ closed_row)

abbrev pub MakesOpening : Text → Database → Database → Type 0
MakesOpening name = Then MakesMainTables (Then (PutsMember name (pos 3)) PutsClosedPolicy)

-- ---- the demo

abbrev pub PutsDemoTeam : Database → Database → Type 0
PutsDemoTeam = Then (PutsMember (codes "root") (pos 3)) (PutsMember (codes "ann") (pos 1))

-- as `main` sees it
abbrev pub hello_row : Row
hello_row = Int (pos 0) ∷ Null ∷ Words (codes "Hello") ∷ text_or_null None ∷ Words (texts_text []) ∷ Words (texts_text []) ∷ Words (texts_text []) ∷ []

abbrev pub PutsDemoEntry : Database → Database → Type 0
PutsDemoEntry =
    PutsRow (codes "d_template") domain_place
    (HoldsValues (Words main ∷ Int (pos 0) ∷ Words (codes "Hello") ∷ text_or_null None ∷ Words (texts_text []) ∷ Words (texts_text []) ∷ Words (texts_text []) ∷ []))

abbrev pub PutsDemoLanguage : Database → Database → Type 0
PutsDemoLanguage =
    PutsRow (codes "d_language") (key_texts (1 ∷ 2 ∷ []))
    (HoldsValues (Words main ∷ Words (codes "de") ∷ Words (header_text (plain_entry [] demo_header)) ∷ Words (codes "nplurals=2; plural=n != 1;") ∷ []))

abbrev pub PutsDemoUnit : Database → Database → Type 0
PutsDemoUnit = PutsRow (codes "d_unit") first_three (HoldsValues (Words main ∷ unit_cells (codes "de") demo_unit))

abbrev pub PutsDemoTally : Database → Database → Type 0
PutsDemoTally = PutsRow (codes "d_tally") (key_texts (1 ∷ 2 ∷ [])) (HoldsValues (tally_cells main (codes "de") (counts_in demo_domain.template (demo_unit ∷ []))))

abbrev pub PutsDemoMessage : Database → Database → Type 0
PutsDemoMessage = Then PutsDemoEntry (Then PutsDemoLanguage (Then PutsDemoUnit PutsDemoTally))

abbrev pub MakesDemo : Database → Database → Type 0
MakesDemo = Then MakesMainTables (Then PutsDemoTeam (Then PutsClosedPolicy PutsDemoMessage))

-- Between transactions a connection that isn't shut shows a database with no table, as it was committed.
pub record HasNoTables (s : State) : Type 0 where
  pub blank : HasCleanDisk s → IsTrue s.is_open → IsBlank s
  pub settled : HasCleanDisk s → IsTrue s.is_open → s.now ≡ s.committed
