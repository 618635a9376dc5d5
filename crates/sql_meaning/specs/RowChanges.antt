-- What statements make of rows by the names of their tables, wherever these rows are: what `sql_statements` says of a database's.
use Rattle.std.specs.Prelude.{◌≡◌, ◌≢◌, pos, ◌+ℤ◌, ℕ, Bool, true, List, codes}
use Rattle.sqlite.specs.Order.{Row, column}
use Rattle.sqlite_sql.specs.Ops.{fits_i64}
use Rattle.sqlite_rules.specs.Edit.{id_in}
use Rattle.sqlite_rules.specs.Lists.{Has}
use Rattle.sql_laws.specs.ApartRows.{IsRemoved}
use Rattle.sql_schema.specs.Cleared.{IsOn}
use Rattle.sql_schema.specs.Inside.{PutsIn}
use Rattle.sql_schema.specs.Keys.{is_on_unit}
use Rattle.sql_schema.specs.Layouts.{NamedRows, SparesOthers}
use Rattle.sql_statements.specs.Renewed.{AreRenewed, is_approved_row, unapproved_row}

-- One row is put where no row had its key.
pub record AddsIn {K : Type 0} (name : List ℕ) (key : Row → K) (IsRow : Row → Type 0) (old new : NamedRows) : Type 0 where
  pub puts : PutsIn name key IsRow old new
  pub fresh : (x : Row) → Has (old name) x → key x ≢ key puts.row

-- The rows of this name that pass a test are gone, and all other rows are as they were.
pub record TakesIn (name : List ℕ) (test : Row → Bool) (old new : NamedRows) : Type 0 where
  pub rows : IsRemoved test (old name) (new name)
  pub others : SparesOthers name old new

-- The unit has no suggestion more, and no suggestion that went has a vote; all else is as it was.
pub record ClearsIn (lang key : List ℕ) (old new : NamedRows) : Type 0 where
  pub suggestions : IsRemoved (is_on_unit lang key) (old (codes "suggestion")) (new (codes "suggestion"))
  pub votes_only : (v : Row) → Has (new (codes "vote")) v → Has (old (codes "vote")) v × (IsOn old lang key v → ⊥)
  pub votes_kept : (v : Row) → Has (old (codes "vote")) v → (IsOn old lang key v → ⊥) → Has (new (codes "vote")) v
  pub others : (other : List ℕ) → other ≢ codes "suggestion" → other ≢ codes "vote" → new other ≡ old other

-- The rows of this name that pass a test become what they are to become, and the rows of other names are as they were.
pub record RenewsIn (name : List ℕ) (test : Row → Bool) (renewed : Row → Row) (old new : NamedRows) : Type 0 where
  pub rows : AreRenewed test renewed (old name) (new name)
  pub others : SparesOthers name old new

-- 64 bits hold the revision after that of each approved unit
abbrev pub HaveNextIn : NamedRows → Type 0
HaveNextIn rows = (row : Row) → Has (rows (codes "unit")) row → is_approved_row row ≡ true → fits_i64 (id_in (column row 7) +ℤ pos 1) ≡ true

-- no unit stays approved
abbrev pub UnapprovesIn : NamedRows → NamedRows → Type 0
UnapprovesIn old new = HaveNextIn old → RenewsIn (codes "unit") is_approved_row unapproved_row old new
