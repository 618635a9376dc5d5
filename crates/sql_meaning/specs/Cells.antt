-- The rows that are written: for each value the cells of its row, behind the rowid. Texts are those of the columns' formats.
use Rattle.std.specs.Prelude.{ℕ, pos, [], ◌∷◌, Some}
use Rattle.sqlite.specs.declared.types.Value.TheVariants.{Int, Text as Words}
use Rattle.sqlite.specs.Order.{Row}
use Rattle.po_text.specs.Texts.{Text}
use Rattle.units.specs.Units.{key_text}
use Rattle.units.specs.declared.unit.Unit.{Unit}
use Rattle.units.specs.declared.unit.Suggestion.{Suggestion}
use Rattle.units.specs.declared.votes.VoteValue.{VoteValue}
use Rattle.request_book.specs.declared.book.Record.{Record}
use Rattle.office_specification.specs.declared.tally.Tally.{Tally}
use Rattle.request_book.specs.Acts.{vote_number}
use Rattle.request_book.specs.Words.{number_text}
use Rattle.sql_columns.specs.Numbers.{state_number, flag_number}
use Rattle.sql_columns.specs.Written.{texts_text, previous_text}
use Rattle.sql_schema.specs.Rows.{unit_row}

abbrev pub record_cells : Record → Row
record_cells r = Words (number_text r.number) ∷ Words r.content ∷ Int (pos r.reply.status) ∷ Words r.reply.body ∷ []

abbrev pub unit_cells : Text → Unit → Row
unit_cells lang unit =
    unit_row lang (key_text unit.key) unit.plural (texts_text unit.forms) (state_number unit.state) (flag_number unit.obsolete) (pos unit.revision)
    (texts_text unit.comment) (previous_text unit.previous)

-- of a unit's language and key text
abbrev pub suggestion_cells : Text → Text → ℕ → Suggestion → Row
suggestion_cells lang key place s =
    Words (number_text s.number) ∷ Words lang ∷ Words key ∷ Int (pos place) ∷ Words s.suggester ∷ Words (texts_text s.forms) ∷ []

-- on the suggestion of a number's text
abbrev pub vote_cells : Text → Text × VoteValue → Row
vote_cells number vote = Words number ∷ Words vote.0 ∷ Int (vote_number (Some vote.1)) ∷ []

-- of a language of a domain
abbrev pub tally_cells : Text → Text → Tally → Row
tally_cells domain lang counts =
    Words domain ∷ Words lang ∷ Int (pos counts.untranslated) ∷ Int (pos counts.needs_editing) ∷ Int (pos counts.translated) ∷ Int (pos counts.approved) ∷ Int (pos counts.read_only)
    ∷ Int (pos counts.suggestions) ∷ Int (pos counts.obsolete) ∷ []
