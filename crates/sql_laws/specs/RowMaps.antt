-- Rows as a finite map from a key that they hold to a value: their order and their rowids don't matter.
use Rattle.std.specs.Prelude.{◌≡◌, ◌⊎◌, Bool, true, List, map, Option, Some, None}
use Rattle.std.specs.declared.cmp.Ordering.{Ordering}
use Rattle.std.specs.FinMap.{FinMap, from_entries}
use Rattle.sqlite.specs.Order.{Row}
use Rattle.sqlite_rules.specs.Lists.{Has}

module _ {K X : Type 0} (R : K → K → Ordering) (key : Row → K) (value : Row → X) where
  abbrev pub map_of : List Row → FinMap R X
  map_of rows = from_entries (map (λ r. (key r, value r)) rows)

module _ {K : Type 0} (key : Row → K) where
  -- rows with one key are one row
  abbrev pub OneEach : List Row → Type 0
  OneEach rows = (r s : Row) → Has rows r → Has rows s → key r ≡ key s → r ≡ s

  -- a row of that key holds the value, or no row has the key
  abbrev pub IsFound : {X : Type 0} → (Row → X) → List Row → K → Option X → Type 0
  IsFound value rows q (Some x) = (r : Row) × Has rows r × (key r ≡ q) × (value r ≡ x)
  IsFound value rows q None = (r : Row) → Has rows r → key r ≡ q → ⊥

  -- the new rows are one row, and the old ones that have another key
  pub record IsPut (old new : List Row) (row : Row) : Type 0 where
    pub only : (x : Row) → Has new x → (x ≡ row) ⊎ (Has old x × (key x ≡ key row → ⊥))
    pub here : Has new row
    pub kept : (x : Row) → Has old x → (key x ≡ key row → ⊥) → Has new x

  -- the new rows are the old ones at whose keys the test holds
  pub record IsKept (test : K → Bool) (old new : List Row) : Type 0 where
    pub only : (x : Row) → Has new x → Has old x × (test (key x) ≡ true)
    pub kept : (x : Row) → Has old x → test (key x) ≡ true → Has new x
