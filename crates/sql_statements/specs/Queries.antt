-- What an export reads: the template's entries in the order of their places, each beside its unit, and the obsolete units in the order of
-- their keys.
use Rattle.std.specs.Prelude.{◌≡◌, ◌&&◌, ℕ, Bool, pos, List, [], ◌∷◌, ◌++◌, map, filter, codes}
use Rattle.sqlite.specs.declared.types.Value.TheVariants.{Int}
use Rattle.std.specs.List.Sorted.{IsPermutation, IsSorted}
use Rattle.std.specs.declared.cmp.Ordering.{Ordering}
use Rattle.std.specs.declared.cmp.Ordering.TheVariants.{Equal}
use Rattle.std.specs.Ordering.{on, then_cmp, is_eq}
use Rattle.sqlite.specs.Order.{Row, column, value_cmp}
use Rattle.sqlite_rules.specs.Lists.{Has}
use Rattle.sql_schema.specs.Keys.{first_texts, second_text, has_text, columns}
use Rattle.sql_schema.specs.Inside.{IsInOrder}
use Rattle.sql_schema.specs.Layouts.{NamedRows}

-- rows by one of their columns
abbrev pub by_column : ℕ → Row → Row → Ordering
by_column place = then_cmp (on (λ row. column row place) value_cmp) (λ a b. Equal)

-- each row of the template has this row of the language's units, which is of its key
pub record AreUnits (lang : List ℕ) (rows : NamedRows) (unit_of : Row → Row) : Type 0 where
  pub there : (row : Row) → Has (rows (codes "template")) row → Has (rows (codes "unit")) (unit_of row)
  pub keyed : (row : Row) → Has (rows (codes "template")) row → first_texts (unit_of row) ≡ lang ∷ second_text row ∷ []

-- plural, extracted, refs, flags, key, place
abbrev pub entry_places : List ℕ
entry_places = 3 ∷ 4 ∷ 5 ∷ 6 ∷ 2 ∷ 0 ∷ []

-- forms, state, comment, previous
abbrev pub unit_places : List ℕ
unit_places = 4 ∷ 5 ∷ 8 ∷ 9 ∷ []

-- Each entry of the template beside its unit, by place.
pub record ShowsMessagesIn (unit_of : Row → Row) (tables : NamedRows) (rows : List Row) : Type 0 where
  pub all : IsPermutation (map (λ row. columns entry_places row ++ columns unit_places (unit_of row)) (tables (codes "template"))) rows
  pub in_order : IsSorted (by_column 5) rows

-- an obsolete unit of a language
abbrev pub is_obsolete_of : List ℕ → Row → Bool
is_obsolete_of lang row = has_text 1 lang row && is_eq (value_cmp (column row 6) (Int (pos 1)))

-- Each obsolete unit of a language, by key: its plural, forms, state, comment, previous and key.
pub record ShowsObsoleteIn (lang : List ℕ) (tables : NamedRows) (rows : List Row) : Type 0 where
  pub all : IsPermutation (map (columns (3 ∷ 4 ∷ 5 ∷ 8 ∷ 9 ∷ 2 ∷ [])) (filter (is_obsolete_of lang) (tables (codes "unit")))) rows
  pub in_order : IsInOrder 5 rows
