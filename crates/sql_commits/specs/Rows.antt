-- The rows that are written of an office's values, in the columns of their tables. This project's own words.
use Rattle.std.specs.Prelude.{◌≡◌, pos, ℕ, [], ◌∷◌, codes}
use Rattle.sqlite.specs.declared.types.Value.TheVariants.{Int, Text as Words}
use Rattle.sqlite.specs.Effect.{Database}
use Rattle.po_text.specs.Texts.{Text}
use Rattle.po_text.specs.declared.entry.Entry.{Entry}
use Rattle.units.specs.Units.{key_text, key_of}
use Rattle.units.specs.declared.unit.Policy.{Policy}
use Rattle.units.specs.declared.unit.Unit.{Unit}
use Rattle.sql_columns.specs.Written.{texts_text}
use Rattle.sql_schema.specs.Inside.{PutsRow, HoldsValues}
use Rattle.sql_schema.specs.Keys.{key_texts, first_three, row_number, domain_place}
use Rattle.sql_schema.specs.Rows.{text_or_null}
use Rattle.sql_meaning.specs.Cells.{unit_cells}
use Rattle.sql_changes.specs.Commits.{policy_row, language_cells}

-- the policy's one row
abbrev pub PutsPolicyOf : Policy → Database → Database → Type 0
PutsPolicyOf policy = PutsRow (codes "policy") row_number (λ row. row ≡ policy_row policy)

-- an entry of a domain's template, at its place
abbrev pub PutsEntryOf : Text → ℕ → Entry → Database → Database → Type 0
PutsEntryOf domain place entry =
    PutsRow (codes "d_template") domain_place
    (HoldsValues (Words domain ∷ Int (pos place) ∷ Words (key_text (key_of entry)) ∷ text_or_null entry.plural ∷ Words (texts_text entry.extracted) ∷ Words (texts_text entry.references) ∷ Words (texts_text entry.flags) ∷ []))

-- a language of a domain
abbrev pub PutsLanguageOf : Text → Text → Entry → Database → Database → Type 0
PutsLanguageOf domain lang header = PutsRow (codes "d_language") (key_texts (1 ∷ 2 ∷ [])) (HoldsValues (Words domain ∷ language_cells lang header))

-- a unit of a domain's language, without its suggestions
abbrev pub PutsUnitOf : Text → Text → Unit → Database → Database → Type 0
PutsUnitOf domain lang unit = PutsRow (codes "d_unit") first_three (HoldsValues (Words domain ∷ unit_cells lang unit))
