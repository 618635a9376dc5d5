-- The steps of a talk, and of a list that is read. This project's own words, for the code's own steps.
use Rattle.std.specs.Prelude.{⊤, ◌≡◌, ◌≢◌, ◌≤◌, ℕ, ◌+◌, List, [], ◌∷◌, ◌++◌, length, get_or, Option, Some, IfSome}
use Rattle.po_text.specs.Texts.{Text}
use Rattle.request_book.specs.declared.act.Request.{Request}
use Rattle.request_book.specs.Replies.{Reply}
use Rattle.sender.specs.declared.fault.SenderFault.{SenderFault}
use Rattle.sender.specs.declared.fault.SenderFault.TheVariants.{Twice as NumberTwice, Memory as NoMemory}
use Rattle.sender.specs.Sending.{Sending, HasDistinctNumbers}
use Rattle.client.specs.Messages.{message}
use Rattle.client.specs.Answers.{IsReplyIn}
use Rattle.client.specs.Talks.{Said, said_behind, Hears, Turn, times}
use Rattle.client.specs.declared.fault.SendFault.{SendFault}
use Rattle.client.specs.declared.fault.SendFault.TheVariants.{Unread, Malformed, Twice, Memory}
use Rattle.client.specs.Lists.{IsRequestLine, IsFirstMalformed}

-- A message was sent, and a reply came back, if anything did that is one.
pub record Exchanged (said_old said_new : Option (List Said)) (message : List ℕ) (reply : Option Reply) : Type 0 where
  pub answer : Option (List ℕ)
  pub said : said_new ≡ said_behind said_old (record { message = message; answer = answer } ∷ [])
  pub is : IfSome reply (λ r. (bytes : List ℕ) × (answer ≡ Some bytes) × IsReplyIn bytes r)

-- A request was sent once and its answer heard or missed; or there was no memory for its message, and nothing was done.
pub data Sent (request : Request) (said_old said_new : Option (List Said)) (old new : Sending) : Type 0 where
  once : (answer : Option (List ℕ)) → said_new ≡ said_behind said_old (record { message = message request; answer = answer } ∷ [])
      → Hears request.number answer old new → Sent request said_old said_new old new
  never : said_new ≡ said_old → new ≡ old → Sent request said_old said_new old new

-- the tries that the request at a place has left
abbrev pub tries_at : List ℕ → ℕ → ℕ
tries_at left place = get_or left place 0

-- a try of the request at this place was taken, and none of another
pub record Takes (place : ℕ) (old new : List ℕ) : Type 0 where
  pub one : tries_at new place + 1 ≡ tries_at old place
  pub others : (other : ℕ) → other ≢ place → tries_at new other ≡ tries_at old other

-- no request was sent more often than tries of it were taken
abbrev pub IsPaid : List ℕ → List ℕ → List Turn → Type 0
IsPaid old new talk = (place : ℕ) → times place talk + tries_at new place ≤ tries_at old place

-- ---- a list that is read

-- one more line's request
pub record Pushed (line : Text) (old new : List Request) : Type 0 where
  pub request : Request
  pub is : IsRequestLine line request
  pub put : new ≡ old ++ request ∷ []

-- why a line behind so many requests gave none
abbrev pub IsLineFault : Text → List Request → SendFault → Type 0
IsLineFault line requests Unread = ⊥
IsLineFault line requests (Malformed number) = (number ≡ length requests + 1) × ((request : Request) → ¬ IsRequestLine line request)
IsLineFault line requests Twice = ⊥
IsLineFault line requests Memory = ⊤

-- why lines are no requests
abbrev pub IsLinesFault : List Text → SendFault → Type 0
IsLinesFault lines Unread = ⊥
IsLinesFault lines (Malformed number) = IsFirstMalformed lines number
IsLinesFault lines Twice = ⊥
IsLinesFault lines Memory = ⊤

-- ---- a list that is sent

-- why no text was gathered
abbrev pub IsReadFault : Type 0 → SendFault → Type 0
IsReadFault Failed Unread = Failed
IsReadFault Failed (Malformed number) = ⊥
IsReadFault Failed Twice = ⊥
IsReadFault Failed Memory = ⊤

-- why requests were not sent
abbrev pub IsListFault : List Request → SendFault → Type 0
IsListFault requests Unread = ⊥
IsListFault requests (Malformed number) = ⊥
IsListFault requests Twice = ¬ HasDistinctNumbers requests
IsListFault requests Memory = ⊤

-- what a sender's fault is here
abbrev pub of_sender : SenderFault → SendFault
of_sender NumberTwice = Twice
of_sender NoMemory = Memory
