-- Which entries of a template stay, by the rows that show it, and how the others are taken out. Only private clauses and proofs cite this file.
use Rattle.std.specs.Prelude.{◌≡◌, ◌↔◌, ◌&&◌, ℕ, pos, Bool, true, false, not, List, length, get_or, slice_get, Some, codes}
use Rattle.std.specs.List.{list_any}
use Rattle.sqlite.specs.declared.types.Value.{Value}
use Rattle.sqlite.specs.declared.types.Value.TheVariants.{Null, Int, Real, Text as Words, Blob}
use Rattle.sqlite.specs.Order.{Row, column}
use Rattle.sqlite_rules.specs.Lists.{Has}
use Rattle.po_text.specs.declared.entry.Entry.{Entry}
use Rattle.units.specs.KeyTexts.{HasStrings}
use Rattle.units.specs.Units.{key_of, key_text}
use Rattle.sql_columns.specs.Written.{texts_text}
use Rattle.sql_schema.specs.Keys.{text_at, has_text}
use Rattle.sql_schema.specs.Layouts.{NamedRows}
use Rattle.sql_schema.specs.Rows.{text_or_null}
use Rattle.sql_meaning.specs.RowChanges.{TakesIn}
use Rattle.sql_changes.specs.EntryWrites.{stays_at}
use Rattle.sql_changes.specs.UnitWrites.{LeavesRows}

-- a shown row has an entry's texts: plural, extracted, refs, flags, key
pub record IsShown (entry : Entry) (shown : Row) : Type 0 where
  pub plural : column shown 0 ≡ text_or_null entry.plural
  pub extracted : column shown 1 ≡ Words (texts_text entry.extracted)
  pub references : column shown 2 ≡ Words (texts_text entry.references)
  pub flags : column shown 3 ≡ Words (texts_text entry.flags)
  pub key : column shown 4 ≡ Words (key_text (key_of entry))

-- A shown row has the texts of the entry at this place, and the place, and the key's strings are those of a catalogue.
pub record IsShownAt (entries : List Entry) (shown : Row) (place : ℕ) : Type 0 where
  pub entry : Entry
  pub is_there : slice_get entries place ≡ Some entry
  pub texts : IsShown entry shown
  pub at : column shown 5 ≡ Int (pos place)
  pub strings : HasStrings (key_of entry)

-- Of each entry it is told whether it stays: exactly where a row shows it at its place.
pub record AreShown (rows : List Row) (stays : List Bool) (entries : List Entry) : Type 0 where
  pub count : length stays ≡ length entries
  pub each : (place : ℕ) → (get_or stays place false ≡ true) ↔ ((shown : Row) × Has rows shown × IsShownAt entries shown place)

-- whether the entry at the place in a column is told to stay
abbrev pub stays_by : List Bool → Value → Bool
stays_by stays Null = false
stays_by stays (Int place) = stays_at stays place
stays_by stays (Real x) = false
stays_by stays (Words text) = false
stays_by stays (Blob b) = false

-- whether a shown row is at a place that is told to stay
abbrev pub stays_shown : List Bool → Row → Bool
stays_shown stays shown = stays_by stays (column shown 5)

-- the entry of a shown row's key is taken out
abbrev pub TakesShown : Row → NamedRows → NamedRows → Type 0
TakesShown shown = LeavesRows (TakesIn (codes "template") (has_text 2 (text_at 4 shown)))

-- unless it stays
abbrev pub TakesUnless : Bool → Row → NamedRows → NamedRows → Type 0
TakesUnless true shown old new = new ≡ old
TakesUnless false shown old new = TakesShown shown old new

-- one of these shown rows has the row's key, and doesn't stay
abbrev pub is_taken_by : List Bool → List Row → Row → Bool
is_taken_by stays rows row = list_any (λ shown. not (stays_shown stays shown) && has_text 2 (text_at 4 shown) row) rows

abbrev pub TakesOthers : List Bool → List Row → NamedRows → NamedRows → Type 0
TakesOthers stays rows = TakesIn (codes "template") (is_taken_by stays rows)
