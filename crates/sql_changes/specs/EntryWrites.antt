-- What the writer of a template makes of rows by the names of their tables: entries that are there at their places stay, and nothing is written of them. Places
-- in a file tell an order, and nothing else is asked of them: so what stays is told by the rows that are there.
use Rattle.std.specs.Prelude.{◌≡◌, ◌⊎◌, ⊤, ℕ, ◌+◌, ℤ, pos, negsuc, Bool, true, false, not, List, [], ◌∷◌, get_or, codes}
use Rattle.sqlite.specs.declared.types.Value.TheVariants.{Null, Int, Text as Words}
use Rattle.sqlite.specs.Order.{Row}
use Rattle.sqlite_rules.specs.Lists.{Has}
use Rattle.po_text.specs.declared.entry.Entry.{Entry}
use Rattle.units.specs.KeyTexts.{HasStrings}
use Rattle.units.specs.Units.{key_of, key_text}
use Rattle.sql_columns.specs.Written.{texts_text}
use Rattle.sql_schema.specs.Inside.{PutsIn, Then}
use Rattle.sql_schema.specs.Keys.{row_number}
use Rattle.sql_schema.specs.Rows.{text_or_null}
use Rattle.sql_schema.specs.Layouts.{NamedRows, SparesOthers}
use Rattle.sql_meaning.specs.RowChanges.{TakesIn}
use Rattle.sql_meaning.specs.Values.{integer_at}
use Rattle.sql_changes.specs.UnitWrites.{LeavesRows}

-- ---- an entry

-- as its domain sees it: its rowid is the entry's place, and the column of that name is null
abbrev pub entry_row : ℕ → Entry → Row
entry_row place entry =
    Int (pos place) ∷ Null ∷ Words (key_text (key_of entry)) ∷ text_or_null entry.plural ∷ Words (texts_text entry.extracted) ∷ Words (texts_text entry.references) ∷ Words (texts_text entry.flags) ∷ []

-- and the key's strings are those of a catalogue
abbrev pub PutsEntry : ℕ → Entry → NamedRows → NamedRows → Type 0
PutsEntry place entry old new = LeavesRows (PutsIn (codes "template") row_number (λ row. row ≡ entry_row place entry)) old new × HasStrings (key_of entry)

-- from this place on
abbrev pub PutsEntries : ℕ → List Entry → NamedRows → NamedRows → Type 0
PutsEntries place [] old new = new ≡ old
PutsEntries place (entry ∷ more) old new = Then (PutsEntry place entry) (PutsEntries (place + 1) more) old new

-- ---- those that change

-- an entry, unless the one at its place is told to stay
abbrev pub PutsUnless : Bool → ℕ → Entry → NamedRows → NamedRows → Type 0
PutsUnless true place entry old new = new ≡ old
PutsUnless false place entry old new = PutsEntry place entry old new

-- from this place on those that aren't told to stay
abbrev pub PutsOthers : ℕ → List Bool → List Entry → NamedRows → NamedRows → Type 0
PutsOthers place stays [] old new = new ≡ old
PutsOthers place [] (entry ∷ more) old new = Then (PutsEntry place entry) (PutsOthers (place + 1) [] more) old new
PutsOthers place (stay ∷ stays) (entry ∷ more) old new = Then (PutsUnless stay place entry) (PutsOthers (place + 1) stays more) old new

-- from this place on each that is told to stay has its row; no mark is behind the last
abbrev pub AreThere : ℕ → List Bool → List Entry → List Row → Type 0
AreThere place [] entries rows = ⊤
AreThere place (stay ∷ stays) [] rows = ⊥
AreThere place (stay ∷ stays) (entry ∷ more) rows = (stay ≡ true → Has rows (entry_row place entry) × HasStrings (key_of entry)) × AreThere (place + 1) stays more rows

-- whether the entry at a place is told to stay
abbrev pub stays_at : List Bool → ℤ → Bool
stays_at stays (pos place) = get_or stays place false
stays_at stays (negsuc place) = false

-- the entries that are there at their places stay, all others go, and those that aren't there come
abbrev pub WritesEntries : List Entry → NamedRows → NamedRows → Type 0
WritesEntries entries old new =
    (stays : List Bool) × AreThere 0 stays entries (old (codes "template"))
    × Then (LeavesRows (TakesIn (codes "template") (λ row. not (stays_at stays (integer_at 0 row))))) (PutsOthers 0 stays entries) old new

-- the row is that of one of these entries, which stand from this place on
abbrev pub IsRowOf : ℕ → List Entry → Row → Type 0
IsRowOf place [] row = ⊥
IsRowOf place (entry ∷ more) row = (row ≡ entry_row place entry) ⊎ IsRowOf (place + 1) more row

-- each of them has its row
abbrev pub HaveRows : ℕ → List Entry → List Row → Type 0
HaveRows place [] rows = ⊤
HaveRows place (entry ∷ more) rows = Has rows (entry_row place entry) × HasStrings (key_of entry) × HaveRows (place + 1) more rows

-- The template's rows are those of the entries, however many of them were there before, and the rows of other names are as they were.
pub record HoldsEntries (entries : List Entry) (old new : NamedRows) : Type 0 where
  pub only : (row : Row) → Has (new (codes "template")) row → IsRowOf 0 entries row
  pub all : HaveRows 0 entries (new (codes "template"))
  pub others : SparesOthers (codes "template") old new
