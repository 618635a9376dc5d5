-- What the rows that queries show stand for.
use Rattle.std.specs.Prelude.{false, List, [], ◌∷◌, fold, unwrap_or}
use Rattle.std.specs.FinMap as maps
use Rattle.sqlite.specs.Order.{Row}
use Rattle.po_text.specs.declared.entry.Entry.{Entry}
use Rattle.po_text.specs.Texts.{text_cmp}
use Rattle.units.specs.Openings.{plain_entry}
use Rattle.units.specs.Units.{no_previous}
use Rattle.units.specs.declared.unit.Key.{Key}
use Rattle.units.specs.declared.unit.Unit.{Unit}
use Rattle.units.specs.declared.unit.Suggestion.{Suggestion}
use Rattle.units.specs.declared.unit.Policy.{Policy}
use Rattle.units.specs.declared.votes.VoteValue.{VoteValue}
use Rattle.request_book.specs.Book.{Recorded}
use Rattle.office_specification.specs.declared.tally.Tally.{Tally}
use Rattle.sql_columns.specs.Readings.{previous_read, header_read}
use Rattle.sql_schema.specs.Keys.{text_at}
use Rattle.sql_meaning.specs.Values.{natural_at, text_or_null_at, texts_at, flag_at, state_at, vote_at}
use Rattle.sql_meaning.specs.Meaning.{number_at, votes_in}
use Rattle.sql_schema.specs.Layouts.{NamedRows}

-- content, status, body
abbrev pub shown_record : Row → Recorded
shown_record shown = record { content = text_at 0 shown; reply = record { status = natural_at 1 shown; body = text_at 2 shown } }

-- header, plural
abbrev pub shown_header : Row → Entry
shown_header shown = unwrap_or (header_read (text_at 0 shown)) (plain_entry [] [])

-- plural, forms, state, obsolete, revision, comment, previous: the unit of a key with these suggestions
abbrev pub shown_unit : Key → List Suggestion → Row → Unit
shown_unit key suggestions shown = record {
  key = key;
  plural = text_or_null_at 0 shown;
  forms = texts_at 1 shown;
  state = state_at 2 shown;
  obsolete = flag_at 3 shown;
  revision = natural_at 4 shown;
  comment = texts_at 5 shown;
  previous = unwrap_or (previous_read (text_at 6 shown)) no_previous;
  suggestions = suggestions;
}

-- voter, value of each row: the votes, put in one after the other
abbrev pub shown_votes : List Row → maps.FinMap text_cmp VoteValue
shown_votes = fold (λ votes shown. maps.insert votes (text_at 0 shown) (vote_at 1 shown)) maps.empty

-- number, place, suggester, forms: a suggestion, with the votes on it
abbrev pub shown_suggestion : NamedRows → Row → Suggestion
shown_suggestion tables shown = record { number = number_at 0 shown; suggester = text_at 2 shown; forms = texts_at 3 shown; votes = votes_in tables (text_at 0 shown) }

-- plural, extracted, refs, flags: the template's entry of a key
abbrev pub shown_entry : Key → Row → Entry
shown_entry key shown = record {
  translator = [];
  extracted = texts_at 1 shown;
  references = texts_at 2 shown;
  flags = texts_at 3 shown;
  previous = no_previous;
  ctx = key.ctx;
  id = key.id;
  plural = text_or_null_at 0 shown;
  forms = [] ∷ [];
  obsolete = false;
}

-- schema, and the six values
abbrev pub shown_policy : Row → Policy
shown_policy shown = record {
  reviews = flag_at 1 shown;
  guests_suggest = flag_at 2 shown;
  voting = flag_at 3 shown;
  accept_at = natural_at 4 shown;
  placeholders = flag_at 5 shown;
  line_ends = flag_at 6 shown;
}

-- untranslated, needs_editing, translated, approved, read_only, suggestions, obsolete
abbrev pub shown_tally : Row → Tally
shown_tally shown = record {
  approved = natural_at 3 shown;
  needs_editing = natural_at 1 shown;
  obsolete = natural_at 6 shown;
  read_only = natural_at 4 shown;
  suggestions = natural_at 5 shown;
  translated = natural_at 2 shown;
  untranslated = natural_at 0 shown;
}
