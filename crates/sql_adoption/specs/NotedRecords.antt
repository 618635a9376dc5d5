-- What a walk over records notes: the statuses of their replies, by their numbers, or whether all are such that a reply may have. This project's own words.
use Rattle.std.proofs.Common.{◌≡◌, ℕ, Bool, ◌&&◌, List, [], ◌∷◌, ◌++◌, All, sym, subst}
use Rattle.std.specs.Prelude.{fold}
use Rattle.std.specs.BTreeMap.{BTreeMap}
use Rattle.std.specs.FinMap as maps
use Rattle.std.proofs.lemmas.List.Elements.{All-nil, All-cons, All-append}
use Rattle.std.proofs.lemmas.List.Sums.{fold-append}
use Rattle.sqlite.specs.Order.{Row}
use Rattle.po_text.specs.Texts.{Text}
use Rattle.request_book.specs.Book.{Book}
use Rattle.sql_meaning.specs.Meaning.{number_at}
use Rattle.sql_meaning.specs.Values.{natural_at}
use Rattle.sql_meaning.specs.Shown.{shown_record}
use Rattle.rule_tests.specs.Given.{AreStatusesOf}
use Rattle.rule_tests.specs.Books.{is_status}
use Rattle.sql_adoption.specs.BookShown.{IsRecordRow}
use Rattle.sql_adoption.specs.Told.{TellsAll, tells_none, tells_one, tells_more}

-- content, status, body, number: a book with the record of a row
abbrev pub with_record_shown : Book → Row → Book
with_record_shown book row = maps.insert book (number_at 3 row) (shown_record row)

-- Each row is a record's with a request's content, and statuses that were those of a book are those of the book with these records.
pub record NotesRecords (old : BTreeMap Text ℕ) (rows : List Row) (new : BTreeMap Text ℕ) : Type 0 where
  pub stand : All IsRecordRow rows
  pub noted : (book : Book) → AreStatusesOf book old → AreStatusesOf (fold with_record_shown book rows) new

pub notes_none : (statuses : BTreeMap Text ℕ) → NotesRecords statuses [] statuses
notes_none statuses = record { stand = All-nil IsRecordRow; noted = λ book are. are }

pub notes_one : (row : Row) (old new : BTreeMap Text ℕ) → IsRecordRow row → ((book : Book) → AreStatusesOf book old → AreStatusesOf (with_record_shown book row) new) → NotesRecords old (row ∷ []) new
notes_one row old new stands noted = record { stand = All-cons IsRecordRow row [] stands (All-nil IsRecordRow); noted = noted }

pub notes_more : (a b c : BTreeMap Text ℕ) (xs ys : List Row) → NotesRecords a xs b → NotesRecords b ys c → NotesRecords a (xs ++ ys) c
notes_more a b c xs ys one two = record {
  stand = All-append IsRecordRow xs ys one.stand two.stand;
  noted = λ book are. subst (λ more. AreStatusesOf more c) (sym (fold-append with_record_shown book xs ys)) (two.noted (fold with_record_shown book xs) (one.noted book are));
}

-- ---- without a book

-- the status of a row's record is one that a reply may have
abbrev pub has_status : Row → Bool
has_status row = is_status (natural_at 1 row)

-- Each row is a record's with a request's content, and it is told whether all have such a status, also those before.
pub record TestsRecords (before : Bool) (rows : List Row) (after : Bool) : Type 0 where
  pub stand : All IsRecordRow rows
  pub told : TellsAll has_status before rows after

pub tests_none : (answered : Bool) → TestsRecords answered [] answered
tests_none answered = record { stand = All-nil IsRecordRow; told = tells_none has_status answered }

pub tests_one : (row : Row) (before after : Bool) → IsRecordRow row → after ≡ (before && has_status row) → TestsRecords before (row ∷ []) after
tests_one row before after stands told = record { stand = All-cons IsRecordRow row [] stands (All-nil IsRecordRow); told = tells_one has_status row before after told }

pub tests_more : (a b c : Bool) (xs ys : List Row) → TestsRecords a xs b → TestsRecords b ys c → TestsRecords a (xs ++ ys) c
tests_more a b c xs ys one two = record {
  stand = All-append IsRecordRow xs ys one.stand two.stand;
  told = tells_more has_status a b c xs ys one.told two.told;
}
