-- A whole transaction that tells whether the tables are an office's, and of which form.
use Rattle.std.proofs.Common.{◌≡◌, ◌↔◌, Bool, true, false, Some, None, Result, Ok, Err, sym, subst, ◌∙◌}
use Rattle.std.proofs.lemmas.Bool.{false≢true}
use Rattle.sqlite.specs.Effect.{Database}
use Rattle.sqlite.specs.State.{State, IsLive}
use Rattle.sqlite.specs.declared.error.Error.{Error}
use Rattle.sql_schema.specs.Layouts.{Form, HasLayoutOf, rows_named}
use Rattle.sql_schema.specs.Inside.{AreOfficeTablesOf, AreTablesOf}
use Rattle.sql_schema.specs.Whole.{IsIdleOver, StaysIdle}
use Rattle.sql_layouts.specs.Found.{HoldsOfficeOf, HoldsOffice}
use Rattle.sql_layouts.specs.Looks.{IsOver, IsLook, HasSchema, IsTestedOf, IsTested}
use Rattle.sql_layouts.specs.Tables.{form_told}
use Rattle.sql_layouts.specs.declared.office_tables.Form as told
use Rattle.sql_layouts.proofs.LaidOut.{one_form}
use Rattle.sql_layouts.proofs.Looks.{look_mapped, with_before}

module _ (form : Form) where
  abbrev TellsApart : Database → Bool → Type 0
  TellsApart db apart = (apart ≡ true) ↔ AreTablesOf form (rows_named db)

  abbrev TellsOf : Database → Bool → Type 0
  TellsOf db holds = (holds ≡ true) ↔ HoldsOfficeOf form db

  -- over the schema of an office, rowids apart are all that is left to ask
  module _ (a b : State) (over : IsOver (HasSchema form) a) where
    pub office_told : (r : Result Bool Error) → IsLook a b r TellsApart → IsLook a b r TellsOf
    office_told (Ok apart) it =
        look_mapped a b apart apart (λ db h. HasSchema form db × TellsApart db h) TellsOf
        (λ db tells. (λ e. record { schema = tells.0.schema; tables = tells.1.0 e }, λ holds. tells.1.1 holds.tables))
        (with_before a b apart TellsApart (HasSchema form) over it)
    office_told (Err e) it = record { answer = λ clean. tt; same = it.same; stays = it.stays; kept = it.kept; survives = it.survives }

  -- those who read and write an office may go on
  pub idle_of : (old new : State) → HoldsOfficeOf form old.now → IsLive old → StaysIdle old new → IsIdleOver form new
  idle_of old new office live same = record {
    ready = λ _ _. subst (AreOfficeTablesOf form) (sym same.now) (record { schema = office.schema; sound = (live same.was_open).0; tables = office.tables });
    settled = λ _ _. same.now ∙ sym same.committed;
  }

-- tables of one form that aren't an office's are no office's of another
pub no_office : (form : Form) (db : Database) → HasLayoutOf form db → ¬ HoldsOfficeOf form db → ¬ HoldsOffice db
no_office form db has none holds = none (subst (λ f. HoldsOfficeOf f db) (one_form db.schema holds.0 form holds.1.schema has) holds.1)

-- the test of the rows of tables that have a layout of a form tells the form
module _ (form : told.Form) (old new : State) (has : HasLayoutOf (form_told form) old.now) where
  pub form_by_rows : (holds : Bool) → holds ≡ true → IsTestedOf (form_told form) old new (Ok holds) → IsTested old new (Ok (Some form))
  form_by_rows holds is it = record {
    answer = λ clean. (it.answer clean).0 is;
    ready = λ clean. it.ready clean is;
    same = it.same;
    undone = λ clean is_open. tt;
    is_open = it.is_open;
    ended = it.ended;
    survives = it.survives;
  }

  pub none_by_rows : (holds : Bool) → holds ≡ false → IsTestedOf (form_told form) old new (Ok holds) → IsTested old new (Ok None)
  none_by_rows holds is it = record {
    answer = λ clean. no_office (form_told form) old.now has (λ office. false≢true (sym is ∙ (it.answer clean).1 office));
    ready = λ clean. tt;
    same = it.same;
    undone = λ clean is_open. tt;
    is_open = it.is_open;
    ended = it.ended;
    survives = it.survives;
  }

  pub unread_rows : (e f : Error) → IsTestedOf (form_told form) old new (Err e) → IsTested old new (Err f)
  unread_rows e f it = record {
    answer = λ clean. tt;
    ready = λ clean. tt;
    same = λ clean. tt;
    undone = it.undone;
    is_open = λ clean. tt;
    ended = it.ended;
    survives = it.survives;
  }
