-- One sender, a network and an office. What the sender sent may arrive at any later time, as often as the network likes, or never.
-- A delivery that is lost arrives and changes nothing. A reply that was given may be heard at any later time, as often, or never.
-- This project's own rule.
use Rattle.std.specs.Prelude.{ℕ, List, [], ◌∷◌, ◌++◌, map, Bool, true, false, Option, is_some, nat_eq, IsTrue, slice_get}
use Rattle.std.specs.Option.{option_map_or}
use Rattle.std.specs.List.{list_any}
use Rattle.request_book.specs.declared.act.Request.{Request}
use Rattle.request_book.specs.Replies.{Reply}
use Rattle.request_book.specs.Book.{OfficeWithBook}
use Rattle.sender.specs.Sending.{Sending, unanswered, is_ready, hear}
use Rattle.office_specification.specs.Deliveries.{kept, answers_of}

-- a request that arrived, and whether its delivery was lost
pub record Delivery : Type 0 where
  pub request : Request
  pub lost : Bool

pub record World : Type 0 where
  pub sending : Sending  -- the sender's requests, each with the reply that is held for it
  pub sent : List ℕ  -- the places of the requests that were ever sent
  pub deliveries : List Delivery  -- in the order in which they arrived

-- nothing was sent yet
abbrev pub unsent : List Request → World
unsent requests = record { sending = unanswered requests; sent = []; deliveries = [] }

-- the deliveries that the office took: those that weren't lost
abbrev pub taken : World → List Request
taken world = kept (map (λ d. d.request) world.deliveries) (map (λ d. d.lost) world.deliveries)

-- the replies that were ever given: what a run answers these deliveries, from an office and its book
abbrev pub given : OfficeWithBook → World → List Reply
given start world = answers_of start (taken world)

-- ---- events

pub data Event : Type 0 where
  Send : (place : ℕ) → Event  -- the sender sends the request at this place
  Arrive : (place : ℕ) → Event  -- it arrives, and the office takes it
  ArriveLost : (place : ℕ) → Event  -- it arrives and is lost
  Hear : (which : ℕ) → Event  -- the sender hears this one of the replies that were given

abbrev pub was_sent : List ℕ → ℕ → Bool
was_sent sent place = list_any (nat_eq place) sent

-- A request is sent only when it is ready; what was sent may arrive; what was given may be heard.
abbrev pub is_allowed : OfficeWithBook → World → Event → Bool
is_allowed start world (Send place) = is_ready world.sending place
is_allowed start world (Arrive place) = was_sent world.sent place
is_allowed start world (ArriveLost place) = was_sent world.sent place
is_allowed start world (Hear which) = is_some (slice_get (given start world) which)

-- the request at a place arrives, lost or not
abbrev pub arrives : World → ℕ → Bool → World
arrives world place lost =
    option_map_or (λ exchange. record world { deliveries = world.deliveries ++ (record { request = exchange.request; lost = lost }) ∷ [] })
    (slice_get world.sending place) world

-- a reply that was given to a request is heard: it is held for the request's number, if none is
abbrev pub hears : World → Option Request → Option Reply → World
hears world request reply = option_map_or (λ r. option_map_or (λ q. record world { sending = hear q.number r world.sending }) request world) reply world

-- what an event makes of the world
abbrev pub happens : OfficeWithBook → World → Event → World
happens start world (Send place) = record world { sent = world.sent ++ place ∷ [] }
happens start world (Arrive place) = arrives world place false
happens start world (ArriveLost place) = arrives world place true
happens start world (Hear which) = hears world (slice_get (taken world) which) (slice_get (given start world) which)

-- ---- schedules

-- the world after a list of events
abbrev pub after_events : OfficeWithBook → World → List Event → World
after_events start world [] = world
after_events start world (event ∷ events) = after_events start (happens start world event) events

-- each event is allowed when it happens
abbrev pub IsSchedule : OfficeWithBook → World → List Event → Type 0
IsSchedule start world [] = Unit {0}
IsSchedule start world (event ∷ events) = IsTrue (is_allowed start world event) × IsSchedule start (happens start world event) events
