-- Requests a line each, and their answers a line each: what came of a line, the bytes that tell it, and what reached the desk.
-- This project's own rule.
use Rattle.std.specs.Prelude.{◌≡◌, ◌≤◌, ℕ, List, [], ◌∷◌, ◌++◌, length, flat_map, codes, decimal, Result, Ok, Err, IsUtf8, Bool, true, ⊤}
use Rattle.request_book.specs.Acts.{IsRequestText}
use Rattle.request_book.specs.declared.act.Request.{Request}
use Rattle.request_book.specs.Replies.{Reply}
use Rattle.request_book.specs.Book.{OfficeWithBook}
use Rattle.tables.specs.RunsOn.{RunsSince}
use Rattle.tables.specs.declared.faults.Lost.{Lost}
use Rattle.tables.specs.declared.faults.Lost.TheVariants.{Memory, Disk, Refused}
use Rattle.office.specs.Runs.{HasRun, LeavesBeginning}

-- ---- a line, and what came of it

pub data Exchange : Type 0 where
  -- the line is a request's, with its reply, or it is lost
  asked : Request → Result Reply Lost → Exchange
  -- it is no request's, or too long
  malformed : Exchange
  -- there was no memory to read it
  unread : Exchange

-- how many bytes a line has at most, its line end aside
abbrev pub line_limit : ℕ
line_limit = 22000000

abbrev pub IsLine : List ℕ → Exchange → Type 0
IsLine line (asked request result) = (length line ≤ line_limit) × IsUtf8 line × IsRequestText line request
IsLine line malformed = length line ≤ line_limit → IsUtf8 line → (request : Request) → IsRequestText line request → ⊥
IsLine line unread = length line ≤ line_limit

-- one for one
abbrev pub AreLines : List (List ℕ) → List Exchange → Type 0
AreLines [] [] = ⊤
AreLines [] (x ∷ xs) = ⊥
AreLines (line ∷ lines) [] = ⊥
AreLines (line ∷ lines) (x ∷ xs) = IsLine line x × AreLines lines xs

-- ---- what is written

-- `STATUS BODY`
abbrev pub answer_line : ℕ → List ℕ → List ℕ
answer_line status body = decimal status ++ (codes " " ++ (body ++ codes "\n"))

abbrev pub reply_line : Reply → List ℕ
reply_line reply = answer_line reply.status reply.body

-- the body of an error is JSON (RFC 8259), of one word
abbrev pub lost_body : Lost → List ℕ
lost_body Memory = codes "{\"error\":\"memory\"}"
lost_body Disk = codes "{\"error\":\"disk\"}"
lost_body Refused = codes "{\"error\":\"refused\"}"

abbrev pub malformed_body : List ℕ
malformed_body = codes "{\"error\":\"malformed\"}"

abbrev pub lost_line : Lost → List ℕ
lost_line Memory = answer_line 503 (lost_body Memory)
lost_line Disk = answer_line 507 (lost_body Disk)
lost_line Refused = answer_line 500 (lost_body Refused)

abbrev pub result_line : Result Reply Lost → List ℕ
result_line (Ok reply) = reply_line reply
result_line (Err lost) = lost_line lost

abbrev pub malformed_line : List ℕ
malformed_line = answer_line 400 malformed_body

abbrev pub exchange_line : Exchange → List ℕ
exchange_line (asked request result) = result_line result
exchange_line malformed = malformed_line
exchange_line unread = lost_line Memory

-- ---- what reached the desk

abbrev pub requests_of : List Exchange → List Request
requests_of [] = []
requests_of (asked request result ∷ xs) = request ∷ requests_of xs
requests_of (malformed ∷ xs) = requests_of xs
requests_of (unread ∷ xs) = requests_of xs

abbrev pub results_of : List Exchange → List (Result Reply Lost)
results_of [] = []
results_of (asked request result ∷ xs) = result ∷ results_of xs
results_of (malformed ∷ xs) = results_of xs
results_of (unread ∷ xs) = results_of xs

-- a failed disk is told only where the tables are stopped afterwards
abbrev pub DiskOnlyWhere : Type 0 → List (Result Reply Lost) → Type 0
DiskOnlyWhere Stopped [] = ⊤
DiskOnlyWhere Stopped (Ok reply ∷ results) = DiskOnlyWhere Stopped results
DiskOnlyWhere Stopped (Err Memory ∷ results) = DiskOnlyWhere Stopped results
DiskOnlyWhere Stopped (Err Refused ∷ results) = DiskOnlyWhere Stopped results
DiskOnlyWhere Stopped (Err Disk ∷ results) = Stopped × DiskOnlyWhere Stopped results

-- what the tables mean, and what was told, is what the requests of the lines leave and are told, the lost ones struck out
pub record HasDelivered (Honest Whole Stopped : Type 0) (before after : OfficeWithBook) (xs : List Exchange) : Type 0 where
  pub run : HasRun Honest Whole before after (requests_of xs) (results_of xs)
  pub disk : DiskOnlyWhere Stopped (results_of xs)

-- The same, and what a stop may leave afterwards: no line's request that got a reply is lost, whatever came of those behind it.
pub record IsDelivered (Honest Whole Stopped WasWhole : Type 0) (MayLeave StillMayLeave : OfficeWithBook → Type 0) (before after : OfficeWithBook) (xs : List Exchange) : Type 0 where
  pub delivered : HasDelivered Honest Whole Stopped before after xs
  pub stops : Honest → LeavesBeginning WasWhole MayLeave StillMayLeave before (requests_of xs) (results_of xs)

-- Whatever was delivered before, these came behind it.
pub record GoesOn (Honest Whole Stopped StillHonest StillWhole StillStopped : Type 0) (Runs StillRuns : ℕ → Type 0) (MayLeave StillMayLeave : OfficeWithBook → Type 0) (old new : OfficeWithBook) (more : List Exchange) : Type 0 where
  -- a disk that gave something else never becomes one that didn't
  pub honest : StillHonest → Honest
  -- tables that are shut stay so
  pub whole : StillHonest → StillWhole → Whole
  -- stopped ones too
  pub stopped : Stopped → StillStopped
  -- those that ran on since so many failures of the disk, unless it failed, do so still
  pub runs : (since : ℕ) → Runs since → StillRuns since
  pub behind : (start : OfficeWithBook) (done : List Exchange) → HasDelivered Honest Whole Stopped start old done → HasDelivered StillHonest StillWhole StillStopped start new (done ++ more)
  -- what a stop may leave
  pub stops : StillHonest → LeavesBeginning Whole MayLeave StillMayLeave old (requests_of more) (results_of more)

-- the same of tables, by the words that their type has for itself
abbrev pub Delivers : {S : Type 0} → (S → Type 0) → (S → Type 0) → (S → ℕ) → (S → Bool) → (S → OfficeWithBook) → (S → OfficeWithBook → Type 0) → S → S → List Exchange → Type 0
Delivers is_honest is_whole faults is_stopped means may_leave old new =
    GoesOn (is_honest old) (is_whole old) (is_stopped old ≡ true) (is_honest new) (is_whole new) (is_stopped new ≡ true)
    (λ since. RunsSince is_honest is_whole faults is_stopped since old) (λ since. RunsSince is_honest is_whole faults is_stopped since new) (may_leave old) (may_leave new) (means old) (means new)

-- ---- lines that were answered

-- These lines were taken in order: what came of each, what that did to the desk, and what was written.
pub record Answered (Did : List Exchange → Type 0) (Wrote : List ℕ → Type 0) (lines : List (List ℕ)) : Type 0 where
  pub exchanges : List Exchange
  pub are : AreLines lines exchanges
  pub did : Did exchanges
  pub wrote : Wrote (flat_map exchange_line exchanges)
