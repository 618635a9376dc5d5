-- The keys of rows, and which rows are a unit's. A row is its rowid and then its columns; SQL's `=` on two texts compares their bytes
-- (SQLite, "Collating Sequences").
use Rattle.std.specs.Prelude.{ℕ, Bool, List, [], ◌∷◌, ◌&&◌}
use Rattle.std.specs.Ordering.{nat_cmp, is_eq}
use Rattle.std.specs.Cmp.Lexicographic.{slice_cmp}
use Rattle.sqlite.specs.declared.types.Value.{Value}
use Rattle.sqlite.specs.Order.{Row, column}
use Rattle.sqlite_value.specs.Order.{bytes}

abbrev pub text_at : ℕ → Row → List ℕ
text_at place row = bytes (column row place)

-- the first column: a record's or a suggestion's number, a member's name, a language
abbrev pub first_text : Row → List ℕ
first_text = text_at 1

-- the first two: a unit's language and key, a vote's number and voter
abbrev pub first_texts : Row → List (List ℕ)
first_texts row = text_at 1 row ∷ text_at 2 row ∷ []

-- some columns of a row that hold texts, in order
abbrev pub key_texts : List ℕ → Row → List (List ℕ)
key_texts [] row = []
key_texts (place ∷ places) row = text_at place row ∷ key_texts places row

-- the first three: a unit's domain, language and key
abbrev pub first_three : Row → List (List ℕ)
first_three = key_texts (1 ∷ 2 ∷ 3 ∷ [])

-- the second: the key of a template's entry
abbrev pub second_text : Row → List ℕ
second_text = text_at 2

-- the rowid: a template entry's place, and the policy's 1
abbrev pub row_number : Row → Value
row_number row = column row 0

-- the domain of a template's entry, and its place there
abbrev pub domain_place : Row → List ℕ × Value
domain_place row = (text_at 1 row, column row 2)

-- whether a column holds this text
abbrev pub has_text : ℕ → List ℕ → Row → Bool
has_text place text row = is_eq (slice_cmp nat_cmp (text_at place row) text)

-- whether a suggestion is on this unit
abbrev pub is_on_unit : List ℕ → List ℕ → Row → Bool
is_on_unit lang key row = has_text 2 lang row && has_text 3 key row

-- some columns of a row, in order
abbrev pub columns : List ℕ → Row → Row
columns [] row = []
columns (place ∷ places) row = column row place ∷ columns places row
