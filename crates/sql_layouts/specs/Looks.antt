-- What a read inside a transaction needs and keeps, where the tables may be any. This project's own words.
use Rattle.std.specs.Prelude.{◌≡◌, ◌↔◌, ⊤, Bool, true, false, Option, Some, None, Result, OnOk, OnErr, IfOk, IsTrue}
use Rattle.sqlite.specs.Effect.{Database, IsDatabase}
use Rattle.sqlite.specs.State.{State, HasCleanDisk, KeepsCommit, Survives}
use Rattle.sqlite.specs.declared.error.Error.{Error}
use Rattle.sql_schema.specs.Inside.{StaysInside}
use Rattle.sql_schema.specs.Whole.{IsIdleOver, StaysIdle}
use Rattle.sql_schema.specs.Layouts as layouts
use Rattle.sql_schema.specs.Layouts.{HasLayoutOf}
use Rattle.sql_layouts.specs.Found.{HoldsOfficeOf, HoldsOffice}
use Rattle.sql_layouts.specs.Tables.{form_told}
use Rattle.sql_layouts.specs.declared.office_tables.Form.{Form}

-- A transaction is open, over such a database unless the connection is shut.
pub record IsOver (Holds : Database → Type 0) (s : State) : Type 0 where
  pub inside : HasCleanDisk s → IsTrue s.in_transaction
  pub holds : HasCleanDisk s → IsTrue s.is_open → Holds s.now

-- the tables are an office's of a form, whatever their rowids are
pub record HasSchema (form : layouts.Form) (db : Database) : Type 0 where
  pub sound : IsDatabase db
  pub schema : HasLayoutOf form db

-- A query answers by what the connection shows, and changes nothing; however it ends, nothing is committed.
pub record IsLook {A E : Type 0} (old new : State) (result : Result A E) (IsAnswer : Database → A → Type 0) : Type 0 where
  pub answer : HasCleanDisk new → IfOk result (IsAnswer old.now)
  pub same : HasCleanDisk new → OnOk result (new.now ≡ old.now)
  pub stays : HasCleanDisk new → OnOk result (StaysInside old new)
  pub kept : HasCleanDisk new → KeepsCommit old new
  pub survives : Survives old new (λ _. ⊥)

-- The connection shows what was last committed, as it was.
pub record GoesBack (old new : State) : Type 0 where
  pub was_open : IsTrue old.is_open
  pub now : new.now ≡ old.committed
  pub committed : new.committed ≡ old.committed

-- A whole transaction tells whether the tables, which have a layout of a form, are an office's, exactly, and changes nothing. If they are,
-- those who read and write an office of the form may go on. An error leaves what was last committed.
pub record IsTestedOf (form : layouts.Form) (old new : State) (result : Result Bool Error) : Type 0 where
  pub answer : HasCleanDisk new → IfOk result (λ holds. (holds ≡ true) ↔ HoldsOfficeOf form old.now)
  pub ready : HasCleanDisk new → IfOk result (λ holds. holds ≡ true → IsIdleOver form new)
  pub same : HasCleanDisk new → OnOk result (StaysIdle old new)
  pub undone : HasCleanDisk new → IsTrue new.is_open → OnErr result (GoesBack old new)
  pub is_open : HasCleanDisk new → OnOk result (IsTrue new.is_open)
  pub ended : new.in_transaction ≡ false
  pub survives : Survives old new (λ db. db ≡ old.now.trees)

-- what a test of the tables tells: the form of an office's, or that they are none
abbrev pub TellsOffice : Database → Option Form → Type 0
TellsOffice db (Some form) = HoldsOfficeOf (form_told form) db
TellsOffice db None = ¬ HoldsOffice db

abbrev pub IsIdleIn : Option Form → State → Type 0
IsIdleIn (Some form) s = IsIdleOver (form_told form) s
IsIdleIn None s = ⊤

-- The same of tables of any schema: which form an office's have, if they are one's.
pub record IsTested (old new : State) (result : Result (Option Form) Error) : Type 0 where
  pub answer : HasCleanDisk new → IfOk result (TellsOffice old.now)
  pub ready : HasCleanDisk new → IfOk result (λ found. IsIdleIn found new)
  pub same : HasCleanDisk new → OnOk result (StaysIdle old new)
  pub undone : HasCleanDisk new → IsTrue new.is_open → OnErr result (GoesBack old new)
  pub is_open : HasCleanDisk new → OnOk result (IsTrue new.is_open)
  pub ended : new.in_transaction ≡ false
  pub survives : Survives old new (λ db. db ≡ old.now.trees)
