-- What a sender holds after any schedule, beside its list delivered once and in order. This project's own rule.
use Rattle.std.specs.Prelude.{◌≡◌, List, [], ◌∷◌, not, IsTrue}
use Rattle.std.specs.List.{list_all}
use Rattle.std.specs.FinMap as maps
use Rattle.units.specs.Office.{Office}
use Rattle.request_book.specs.declared.act.Request.{Request}
use Rattle.request_book.specs.Replies.{Reply}
use Rattle.request_book.specs.Book.{Book, OfficeWithBook}
use Rattle.sender.specs.Sending.{HasDistinctNumbers}
use Rattle.office_specification.specs.Step.{step}
use Rattle.office_specification.specs.Deliveries.{left_by}
use Rattle.office_laws.specs.World.{World, Event, unsent, taken, after_events, IsSchedule}

-- the replies to requests that come once and in order
abbrev pub replies_in_order : Office → List Request → List Reply
replies_in_order office [] = []
replies_in_order office (x ∷ xs) = (step office x).1 ∷ replies_in_order (step office x).0 xs

-- the book has none of their numbers
abbrev pub AreNew : Book → List Request → Type 0
AreNew book requests = IsTrue (list_all (λ request. not (maps.contains_key book request.number)) requests)

-- A world that a schedule leads to, for a sender of requests with distinct numbers that the book doesn't have.
pub record IsReached (start : OfficeWithBook) (requests : List Request) (world : World) : Type 0 where
  pub distinct : HasDistinctNumbers requests
  pub new : AreNew start.book requests
  pub schedule : List Event
  pub allowed : IsSchedule start (unsent requests) schedule
  pub leads : world ≡ after_events start (unsent requests) schedule

-- the office's book has the request's number
abbrev pub IsRecorded : OfficeWithBook → World → Request → Type 0
IsRecorded start world request = IsTrue (maps.contains_key (left_by start (taken world)).book request.number)
