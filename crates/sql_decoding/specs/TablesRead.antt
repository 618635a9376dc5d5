-- Votes and suggestions of whole tables, under the texts by which they are asked for. This project's own words, for inner functions.
use Rattle.std.specs.Prelude.{List, [], map, filter, unwrap_or, String, string_bytes}
use Rattle.std.specs.declared.cmp.Ordering.{Ordering}
use Rattle.std.specs.Ordering.{ordering_then}
use Rattle.std.specs.FinMap as maps
use Rattle.std.specs.BTreeMap.{BTreeMap, get_by}
use Rattle.sqlite.specs.Order.{Row}
use Rattle.po_text.specs.Texts.{Text, text_cmp}
use Rattle.units.specs.declared.unit.Suggestion.{Suggestion}
use Rattle.units.specs.declared.unit.Unit.{Unit}
use Rattle.units.specs.declared.votes.VoteValue.{VoteValue}
use Rattle.sql_schema.specs.Keys.{text_at}
use Rattle.sql_meaning.specs.Values.{texts_at}
use Rattle.sql_meaning.specs.Meaning.{number_at, key_at}
use Rattle.sql_meaning.specs.Shown.{shown_unit}
use Rattle.sql_meaning.specs.OfficeShown.{is_of_unit}

abbrev pub Votes : Type 0
Votes = maps.FinMap text_cmp VoteValue

-- ---- votes by the text of their suggestion's number

-- none where the number has none
abbrev pub votes_of : {A : Type 0} → BTreeMap (String A) Votes → Text → Votes
votes_of all number = unwrap_or (get_by (λ k. text_cmp number (string_bytes k)) all) maps.empty

-- ---- suggestions by their unit's language and key

abbrev pub TwoTexts : Type 0
TwoTexts = Text × Text

abbrev pub by_texts : TwoTexts → TwoTexts → Ordering
by_texts a b = ordering_then (text_cmp a.0 b.0) (text_cmp a.1 b.1)

abbrev pub two_bytes : {A : Type 0} → String A × String A → TwoTexts
two_bytes k = (string_bytes k.0, string_bytes k.1)

-- none where the unit has none
abbrev pub suggestions_of : {A : Type 0} → BTreeMap (String A × String A) (List Suggestion) → Text → Text → List Suggestion
suggestions_of all lang key = unwrap_or (get_by (λ k. by_texts (lang, key) (two_bytes k)) all) []

-- the suggestion of a row, with these votes
abbrev pub with_votes : Votes → Row → Suggestion
with_votes votes row = record { number = number_at 0 row; suggester = text_at 2 row; forms = texts_at 3 row; votes = votes }

abbrev pub with_own_votes : {A : Type 0} → BTreeMap (String A) Votes → Row → Suggestion
with_own_votes votes row = with_votes (votes_of votes (text_at 0 row)) row

-- those of these rows on a unit
abbrev pub suggestions_among : {A : Type 0} → BTreeMap (String A) Votes → List Row → Text → Text → List Suggestion
suggestions_among votes rows lang key = map (with_own_votes votes) (filter (is_of_unit lang key) rows)

-- the unit of a row, with the suggestions on it
abbrev pub with_suggestions : {A : Type 0} → BTreeMap (String A × String A) (List Suggestion) → Row → Unit
with_suggestions all row = shown_unit (key_at 8 row) (suggestions_of all (text_at 7 row) (text_at 8 row)) row
