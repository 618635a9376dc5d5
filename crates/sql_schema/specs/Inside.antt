-- What a statement inside a transaction needs, does and keeps. This project's own words; what a connection shows is that of the kit's
-- `sqlite`.
use Rattle.std.specs.Prelude.{true, ◌≡◌, ℕ, ℤ, Bool, List, ◌∷◌, map, filter, Option, Result, OnOk, IfOk, IsTrue}
use Rattle.std.specs.List.Sorted.{IsPermutation, IsSortedByKey}
use Rattle.sqlite.specs.declared.types.Value.TheVariants.{Int}
use Rattle.sqlite.specs.Order.{Row, column, value_cmp}
use Rattle.sqlite.specs.Effect.{Database, IsDatabase}
use Rattle.sqlite.specs.State.{State, HasCleanDisk, KeepsCommit, Survives}
use Rattle.sql_laws.specs.ApartRows.{AreApart}
use Rattle.sql_laws.specs.RowMaps.{IsPut, IsFound}
use Rattle.sql_schema.specs.Layouts.{Form, for_main, NamedRows, HasLayoutOf, rows_named, SparesOthers, is_own_table}

-- each table of an office has its rowids apart
abbrev pub AreTablesOf : Form → NamedRows → Type 0
AreTablesOf form rows = (name : List ℕ) → is_own_table form name ≡ true → AreApart (rows name)

-- The tables of an office in some layout of a form, which obey their schema.
pub record AreOfficeTablesOf (form : Form) (db : Database) : Type 0 where
  pub schema : HasLayoutOf form db
  pub sound : IsDatabase db
  pub tables : AreTablesOf form (rows_named db)

-- the connection shows them
abbrev pub IsReadyFor : Form → State → Type 0
IsReadyFor form s = AreOfficeTablesOf form s.now

-- A transaction is open, over an office's tables unless the connection is shut.
pub record IsSteadyOver (form : Form) (s : State) : Type 0 where
  pub inside : HasCleanDisk s → IsTrue s.in_transaction
  pub ready : HasCleanDisk s → IsTrue s.is_open → IsReadyFor form s

-- over tables without a column for a domain
abbrev pub IsSteadyForMain : State → Type 0
IsSteadyForMain s = (figures : Bool) × IsSteadyOver (for_main figures) s

-- The transaction and the connection stay open.
pub record StaysInside (old new : State) : Type 0 where
  pub inside : IsTrue new.in_transaction
  pub is_open : IsTrue new.is_open
  pub committed : new.committed ≡ old.committed

-- What is written is made where the statement succeeds; however it ends, nothing is committed.
pub record IsInsideOf {A E : Type 0} (form : Form) (old new : State) (result : Result A E) (Makes : Database → Database → Type 0) : Type 0 where
  pub made : HasCleanDisk new → OnOk result (Makes old.now new.now)
  pub ready : HasCleanDisk new → OnOk result (IsReadyFor form new)
  pub stays : HasCleanDisk new → OnOk result (StaysInside old new)
  pub kept : HasCleanDisk new → KeepsCommit old new
  pub survives : Survives old new (λ _. ⊥)

-- one after the other, of databases or of rows by the names of their tables
abbrev pub Then : {S : Type 0} → (S → S → Type 0) → (S → S → Type 0) → S → S → Type 0
Then {S} First Second old new = (mid : S) × First old mid × Second mid new

-- what is made of the rows of the tables, by the names of these
abbrev pub OnRows : (NamedRows → NamedRows → Type 0) → Database → Database → Type 0
OnRows Makes old new = Makes (rows_named old) (rows_named new)

-- a row of these values, whatever its rowid
abbrev pub HoldsValues : Row → Row → Type 0
HoldsValues values row = (id : ℤ) × (row ≡ Int id ∷ values)

-- One row is put into the table of this name, in the place of the row with its key if there is one, and the other tables are as they were.
pub record PutsRow {K : Type 0} (name : List ℕ) (key : Row → K) (IsRow : Row → Type 0) (old new : Database) : Type 0 where
  pub row : Row
  pub is_row : IsRow row
  pub put : IsPut key (rows_named old name) (rows_named new name) row
  pub others : SparesOthers name (rows_named old) (rows_named new)
  pub schema : new.schema ≡ old.schema

-- The same of rows by the names of their tables, wherever these are.
pub record PutsIn {K : Type 0} (name : List ℕ) (key : Row → K) (IsRow : Row → Type 0) (old new : NamedRows) : Type 0 where
  pub row : Row
  pub is_row : IsRow row
  pub put : IsPut key (old name) (new name) row
  pub others : SparesOthers name old new

-- A query answers by what the connection shows, and changes nothing; however it ends, nothing is committed.
pub record IsReadOf {A E : Type 0} (form : Form) (old new : State) (result : Result A E) (IsAnswer : Database → A → Type 0) : Type 0 where
  pub answer : HasCleanDisk new → IfOk result (IsAnswer old.now)
  pub same : HasCleanDisk new → OnOk result (new.now ≡ old.now)
  pub ready : HasCleanDisk new → OnOk result (IsReadyFor form new)
  pub stays : HasCleanDisk new → OnOk result (StaysInside old new)
  pub kept : HasCleanDisk new → KeepsCommit old new
  pub survives : Survives old new (λ _. ⊥)

-- the row with a key as a query shows it, or none where no row of the table has the key
abbrev pub ShowsKey : {K : Type 0} → List ℕ → (Row → K) → (Row → Row) → K → Database → Option Row → Type 0
ShowsKey name key shown q db found = IsFound key shown (rows_named db name) q found

-- the rows of a table that pass a test as a query shows them, each once, in any order
abbrev pub ShowsAll : List ℕ → (Row → Bool) → (Row → Row) → Database → List Row → Type 0
ShowsAll name test shown db rows = IsPermutation (map shown (filter test (rows_named db name))) rows

-- no row has less in this column than the row before it
abbrev pub IsInOrder : ℕ → List Row → Type 0
IsInOrder place = IsSortedByKey (λ row. column row place) value_cmp
