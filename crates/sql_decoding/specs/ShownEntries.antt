-- What the rows of an export stand for: an entry of the template with its unit, and an obsolete unit's entry.
use Rattle.std.specs.Prelude.{◌&&◌, ℕ, Bool, true, not, List, [], ◌∷◌, codes, if◌then◌else◌, unwrap_or}
use Rattle.sqlite.specs.Order.{Row}
use Rattle.po_text.specs.declared.entry.Entry.{Entry}
use Rattle.po_text.specs.Strings.{is_string}
use Rattle.po_text.specs.Texts.{Text}
use Rattle.units.specs.Units.{no_previous, is_needs_editing, all_empty}
use Rattle.units.specs.declared.unit.UnitState.{UnitState}
use Rattle.sql_columns.specs.Readings.{previous_read}
use Rattle.sql_schema.specs.Keys.{text_at}
use Rattle.sql_meaning.specs.Values.{text_or_null_at, texts_at, state_at}
use Rattle.sql_meaning.specs.Meaning.{key_at}
use Rattle.sql_meaning.specs.Shown.{shown_entry}
use Rattle.sql_decoding.specs.RowTests.{holds_text, holds_text_or_null, holds_integer, is_state, are_forms, are_texts, are_previous, is_key, is_entry_row}

-- `fuzzy` first, exactly where the stored state is needs editing
abbrev pub flags_behind : UnitState → List Text → List Text
flags_behind state flags = if is_needs_editing state then codes "fuzzy" ∷ flags else flags

-- plural, extracted, refs, flags, key, place; forms, state, comment, previous: the template's entry with its unit
abbrev pub message_shown : Row → Entry
message_shown row = record (shown_entry (key_at 4 row) row) {
  translator = texts_at 8 row;
  flags = flags_behind (state_at 7 row) (texts_at 3 row);
  previous = unwrap_or (previous_read (text_at 9 row)) no_previous;
  forms = texts_at 6 row;
}

-- plural, forms, state, comment, previous, key: the entry of an obsolete unit
abbrev pub obsolete_shown : Row → Entry
obsolete_shown row = record {
  translator = texts_at 3 row;
  extracted = [];
  references = [];
  flags = flags_behind (state_at 2 row) [];
  previous = unwrap_or (previous_read (text_at 4 row)) no_previous;
  ctx = (key_at 5 row).ctx;
  id = (key_at 5 row).id;
  plural = text_or_null_at 0 row;
  forms = texts_at 1 row;
  obsolete = true;
}

-- its unit has a nonempty form
abbrev pub is_translated_row : Row → Bool
is_translated_row row = not (all_empty (texts_at 1 row))

-- ---- which of them stand for values

-- forms, state, comment, previous, at these places
abbrev pub has_own : ℕ → ℕ → ℕ → ℕ → Row → Bool
has_own forms state comment previous row =
    holds_text are_forms forms row && (holds_integer is_state state row && (holds_text are_texts comment row && holds_text are_previous previous row))

abbrev pub is_message_row : Row → Bool
is_message_row row = is_entry_row row && has_own 6 7 8 9 row

abbrev pub is_obsolete_row : Row → Bool
is_obsolete_row row = (holds_text_or_null is_string 0 row && holds_text is_key 5 row) && has_own 1 2 3 4 row
