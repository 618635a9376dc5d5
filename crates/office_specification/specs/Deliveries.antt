-- Deliveries: requests that come again, are lost, or come in another order. What a list of them leaves, and what each is answered.
-- This project's own rule: a request acts once, at the first arrival of its number, and each repeat gets the reply of that arrival.
-- A refusal is recorded like a success.
use Rattle.std.specs.Prelude.{◌≡◌, List, [], ◌∷◌, ◌++◌, Bool, true, false, not, if◌then◌else◌, Some, unwrap_or, Result, Ok, Err, map, filter}
use Rattle.std.specs.Option.{option_map_or}
use Rattle.std.specs.FinMap as maps
use Rattle.po_text.specs.Texts.{Text, text_eq}
use Rattle.units.specs.Office.{Office}
use Rattle.request_book.specs.declared.act.Request.{Request}
use Rattle.request_book.specs.Replies.{Reply}
use Rattle.request_book.specs.Acts.{content_text}
use Rattle.request_book.specs.Book.{Book, OfficeWithBook, Recorded, recorded_as, has_number}
use Rattle.replies.specs.Bodies.{number_used}
use Rattle.office_specification.specs.Step.{step}

-- ---- which requests act

-- A delivery that is lost arrived and changed nothing: its place is struck out. The marks say which are lost.
abbrev pub kept : {X : Type 0} → List X → List Bool → List X
kept [] lost = []
kept (x ∷ xs) [] = x ∷ xs
kept (x ∷ xs) (true ∷ lost) = kept xs lost
kept (x ∷ xs) (false ∷ lost) = x ∷ kept xs lost

-- the requests with other numbers
abbrev pub without : Text → List Request → List Request
without number requests = filter (λ r. not (has_number number r)) requests

-- Of each number that the book doesn't have, the first request: it is kept, and its number is struck out of the rest.
abbrev pub first_of : Book → List Request → List Request
first_of book [] = []
first_of book (x ∷ xs) =
    let rest = first_of book xs in
    if maps.contains_key book x.number then rest else x ∷ without x.number rest

-- ---- what a list leaves

-- the office after requests with distinct numbers, in order
abbrev pub after : Office → List Request → Office
after office [] = office
after office (x ∷ xs) = after (step office x).0 xs

-- the book with the content and the reply of each of them
abbrev pub book_of : Office → Book → List Request → Book
book_of office book [] = book
book_of office book (x ∷ xs) = book_of (step office x).0 (maps.insert book x.number (recorded_as x (step office x).1)) xs

-- the office and the book that a list leaves, each request taken once, at its first arrival
abbrev pub left_by : OfficeWithBook → List Request → OfficeWithBook
left_by meaning requests = record {
  office = after meaning.office (first_of meaning.book requests);
  book = book_of meaning.office meaning.book (first_of meaning.book requests);
}

-- ---- what a list is answered

-- The first arrival of a number, with the requests before it: one of these, or else the request that comes after them.
abbrev pub arrival_of : Text → List Request → Request → List Request × Request
arrival_of number [] x = ([], x)
arrival_of number (y ∷ ys) x =
    let later = arrival_of number ys x in
    if has_number number y then ([], y) else (y ∷ later.0, later.1)

-- what is recorded of a first arrival: its content, and its reply at the office that the requests before it leave
abbrev pub record_of : OfficeWithBook → List Request × Request → Recorded
record_of meaning first = recorded_as first.1 (step (left_by meaning first.0).office first.1).1

-- the recorded reply to an equal content, caller included; else the number is used
abbrev pub reply_from : Recorded → Request → Reply
reply_from recorded x = if text_eq recorded.content (content_text x) then recorded.reply else number_used

-- The one reply to a request that comes after these: from the book's record of its number, or from that of its first arrival.
unfoldable pub reply_at : OfficeWithBook → List Request → Request → Reply
reply_at meaning before x = reply_from (unwrap_or (maps.get meaning.book x.number) (record_of meaning (arrival_of x.number before x))) x

-- the replies to requests that come after these, in order
abbrev pub replies_after : OfficeWithBook → List Request → List Request → List Reply
replies_after meaning before [] = []
replies_after meaning before (x ∷ xs) = reply_at meaning before x ∷ replies_after meaning (before ++ x ∷ []) xs

-- the one reply to each of a list
abbrev pub answers_of : OfficeWithBook → List Request → List Reply
answers_of meaning requests = replies_after meaning [] requests

-- ---- results of a run

abbrev pub is_lost : {E : Type 0} → Result Reply E → Bool
is_lost (Ok r) = false
is_lost (Err e) = true

-- which results are lost
abbrev pub lost_marks : {E : Type 0} → List (Result Reply E) → List Bool
lost_marks results = map is_lost results

-- the replies of the results that aren't lost
abbrev pub told : {E : Type 0} → List (Result Reply E) → List Reply
told [] = []
told (Ok r ∷ rs) = r ∷ told rs
told (Err e ∷ rs) = told rs

-- ---- one delivery, by one look into the book

-- a request whose number is new: the step and its record
abbrev pub first_delivered : OfficeWithBook → Request → OfficeWithBook × Reply
first_delivered meaning x =
    (record { office = (step meaning.office x).0; book = maps.insert meaning.book x.number (recorded_as x (step meaning.office x).1) }, (step meaning.office x).1)

-- a request whose number is recorded gets its reply from the record; else the step and its record
abbrev pub delivered : OfficeWithBook → Request → OfficeWithBook × Reply
delivered meaning x = option_map_or (λ recorded. (meaning, reply_from recorded x)) (maps.get meaning.book x.number) (first_delivered meaning x)

-- ---- lists that differ by the order of requests that don't clash

-- the book has each request of a list with the reply that it gets at its place
abbrev pub IsRecordedIn : Book → Office → List Request → Type 0
IsRecordedIn book office [] = Unit {0}
IsRecordedIn book office (x ∷ xs) = (maps.get book x.number ≡ Some (recorded_as x (step office x).1)) × IsRecordedIn book (step office x).0 xs
