-- Rows with rowids that are integers, no two the same, and rows that go by their rowids.
use Rattle.std.specs.Prelude.{◌≡◌, ℤ, Bool, true, false, List}
use Rattle.std.specs.Ordering.{is_eq}
use Rattle.sqlite.specs.declared.types.Value.TheVariants.{Int}
use Rattle.sqlite.specs.Order.{Row, value_cmp}
use Rattle.sqlite.specs.Tree.{rowid}
use Rattle.sqlite_trees.specs.Tree.{IsAscending}
use Rattle.sqlite_trees.specs.View.{is_int}
use Rattle.sqlite_rules.specs.Lists.{Has}

-- each rowid differs from those of the rows behind it, so no row stands twice
abbrev pub AreOnce : List Row → Type 0
AreOnce = IsAscending (λ r s. is_eq (value_cmp (rowid r) (rowid s)) ≡ false)

pub record AreApart (rows : List Row) : Type 0 where
  pub ints : (r : Row) → Has rows r → is_int (rowid r) ≡ true
  pub apart : (r s : Row) → Has rows r → Has rows s → is_eq (value_cmp (rowid r) (rowid s)) ≡ true → r ≡ s
  pub once : AreOnce rows

-- the rows that pass the test are gone, and the others stay
pub record IsRemoved (test : Row → Bool) (old new : List Row) : Type 0 where
  pub only : (x : Row) → Has new x → Has old x × (test x ≡ false)
  pub kept : (x : Row) → Has old x → test x ≡ false → Has new x

-- the ids are those of the rows that pass the test
pub record AreIdsOf (test : Row → Bool) (rows : List Row) (ids : List ℤ) : Type 0 where
  pub sound : (id : ℤ) → Has ids id → (r : Row) × Has rows r × (test r ≡ true) × (rowid r ≡ Int id)
  pub complete : (r : Row) (id : ℤ) → Has rows r → test r ≡ true → rowid r ≡ Int id → Has ids id
