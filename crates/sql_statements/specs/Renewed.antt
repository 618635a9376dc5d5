-- Rows of a table become others where they stand: those of approved units under a policy without reviews.
use Rattle.std.specs.Prelude.{◌≡◌, ◌⊎◌, ℕ, ℤ, pos, ◌+ℤ◌, Bool, true, false, List, [], ◌∷◌}
use Rattle.std.specs.Ordering.{is_eq}
use Rattle.sqlite.specs.declared.types.Value.TheVariants.{Int}
use Rattle.sqlite.specs.Order.{Row, column, value_cmp}
use Rattle.sqlite.specs.Effect.{Database}
use Rattle.sqlite_rules.specs.Edit.{id_in}
use Rattle.sqlite_rules.specs.Lists.{Has}
use Rattle.sql_schema.specs.Layouts.{rows_named, SparesOthers}

-- The rows that pass a test become what they are to become, and the others stay.
pub record AreRenewed (test : Row → Bool) (renewed : Row → Row) (old new : List Row) : Type 0 where
  pub only : (x : Row) → Has new x → (Has old x × (test x ≡ false)) ⊎ ((r : Row) × Has old r × (test r ≡ true) × (x ≡ renewed r))
  pub kept : (x : Row) → Has old x → test x ≡ false → Has new x
  pub made : (x : Row) → Has old x → test x ≡ true → Has new (renewed x)

-- Those of the table of this name do, and the other tables are as they were.
pub record RenewsRows (name : List ℕ) (test : Row → Bool) (renewed : Row → Row) (old new : Database) : Type 0 where
  pub rows : AreRenewed test renewed (rows_named old name) (rows_named new name)
  pub others : SparesOthers name (rows_named old) (rows_named new)
  pub schema : new.schema ≡ old.schema

-- two states of a unit, as its column has them
abbrev pub translated_state : ℤ
translated_state = pos 2

abbrev pub approved_state : ℤ
approved_state = pos 3

-- the row of an approved unit
abbrev pub is_approved_row : Row → Bool
is_approved_row row = is_eq (value_cmp (column row 5) (Int approved_state))

-- it becomes that of a translated one, at the next revision
abbrev pub unapproved_row : Row → Row
unapproved_row row =
    column row 0 ∷ column row 1 ∷ column row 2 ∷ column row 3 ∷ column row 4 ∷ Int translated_state ∷ column row 6 ∷ Int (id_in (column row 7) +ℤ pos 1) ∷ column row 8 ∷ column row 9 ∷ []
