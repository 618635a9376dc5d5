-- The status of a row's record that is noted, or told.
use Rattle.std.proofs.Common.{◌≡◌, ◌&&◌, ℕ, [], ◌∷◌, Bool, Result, Ok, Err, IfOk, OnOk, ap}
use Rattle.std.specs.BTreeMap.{BTreeMap}
use Rattle.sqlite.specs.Order.{Row}
use Rattle.po_text.specs.Texts.{Text}
use Rattle.request_book.specs.Book.{Book}
use Rattle.rule_tests.specs.Given.{AreStatusesOf}
use Rattle.sql_adoption.specs.BookShown.{IsRecordRow}
use Rattle.sql_adoption.specs.NotedRecords.{with_record_shown, NotesRecords, notes_one, has_status, TestsRecords, tests_one}

pub row_noted : {U E : Type 0} (r : Result U E) (row : Row) (old new : BTreeMap Text ℕ) → OnOk r (IsRecordRow row)
    → ((book : Book) → AreStatusesOf book old → OnOk r (AreStatusesOf (with_record_shown book row) new)) → OnOk r (NotesRecords old (row ∷ []) new)
row_noted (Ok u) row old new stands noted = notes_one row old new stands noted
row_noted (Err e) row old new stands noted = tt

pub row_tested : {E : Type 0} (r : Result Bool E) (row : Row) (before : Bool) → OnOk r (IsRecordRow row) → IfOk r (λ has. has ≡ has_status row) → IfOk r (λ has. TestsRecords before (row ∷ []) (before && has))
row_tested (Ok has) row before stands told = tests_one row before (before && has) stands (ap (λ b. before && b) told)
row_tested (Err e) row before stands told = tt
