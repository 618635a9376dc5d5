-- One sender, a network and a desk, by what their calls say. What was sent may reach the desk at any later time, as often as the
-- network likes, or never; a reply that the desk told may be heard at any later time, as often, or never. This project's own
-- rule.
use Rattle.std.specs.Prelude.{◌≡◌, ℕ, List, [], ◌∷◌, ◌++◌, true, Some, Result, Ok, slice_get}
use Rattle.request_book.specs.declared.act.Request.{Request}
use Rattle.request_book.specs.Replies.{Reply}
use Rattle.request_book.specs.Book.{OfficeWithBook}
use Rattle.tables.specs.declared.faults.Lost.{Lost}
use Rattle.sender.specs.declared.exchange.Exchange.{Exchange}
use Rattle.sender.specs.Sending.{Sending, HasDistinctNumbers, unanswered, is_ready, hear}
use Rattle.office.specs.Runs.{HasRun}
use Rattle.office_laws.specs.World.{was_sent}
use Rattle.office_laws.specs.Simulation.{AreNew}

pub record Moment : Type 0 where
  pub sending : Sending  -- what the sender holds
  pub sent : List ℕ  -- the places of the requests that were ever sent
  pub requests : List Request  -- those that reached the desk, in the order in which they did
  pub results : List (Result Reply Lost)  -- what the desk answered to each: its reply, or an error, with which it is lost

-- a sender of these requests, before anything is sent
abbrev pub unsent_yet : List Request → Moment
unsent_yet requests = record { sending = unanswered requests; sent = []; requests = []; results = [] }

-- What happens next:
pub data Happens (old new : Moment) : Type 0 where
  -- a request for which the sender's `ready` answers true is sent;
  sends : (place : ℕ) → is_ready old.sending place ≡ true → new ≡ record old { sent = old.sent ++ place ∷ [] } → Happens old new
  -- one that was sent reaches the desk, which answers this;
  arrives : (place : ℕ) (exchange : Exchange) (result : Result Reply Lost) → was_sent old.sent place ≡ true
      → slice_get old.sending place ≡ Some exchange
      → new ≡ record old { requests = old.requests ++ exchange.request ∷ []; results = old.results ++ result ∷ [] }
      → Happens old new
  -- or the sender's `on_reply` takes a reply that the desk told.
  hears : (delivery : ℕ) (request : Request) (reply : Reply) → slice_get old.requests delivery ≡ Some request
      → slice_get old.results delivery ≡ Some (Ok reply)
      → new ≡ record old { sending = hear request.number reply old.sending } → Happens old new

-- moments that follow one another
abbrev pub IsHistory : Moment → List Moment → Moment → Type 0
IsHistory first [] last = last ≡ first
IsHistory first (next ∷ more) last = Happens first next × IsHistory next more last

-- A sender of requests with distinct numbers that the book doesn't have came to this moment; and what the desk answered until
-- then, and its tables mean now, is what its runs say, one behind another.
pub record HasCome (Honest Whole : Type 0) (start now : OfficeWithBook) (requests : List Request) (last : Moment) : Type 0 where
  pub distinct : HasDistinctNumbers requests
  pub new : AreNew start.book requests
  pub history : List Moment
  pub leads : IsHistory (unsent_yet requests) history last
  pub run : HasRun Honest Whole start now last.requests last.results
