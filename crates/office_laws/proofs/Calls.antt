-- What the sender's calls say is what the world's events do.
use Rattle.std.proofs.Common.{◌≡◌, ℕ, Option, Some, refl, ◌∙◌, ap}
use Rattle.std.specs.Prelude.{slice_get}
use Rattle.request_book.specs.declared.act.Request.{Request}
use Rattle.request_book.specs.Replies.{Reply}
use Rattle.request_book.specs.Book.{OfficeWithBook}
use Rattle.sender.specs.Sending.{is_ready, hear}
use Rattle.office_laws.specs.World.{World, Send, Hear, taken, given, is_allowed, hears, happens}

-- a request may be sent exactly where `ready` answers true
pub sent_when_ready : (start : OfficeWithBook) (world : World) (place : ℕ) → is_allowed start world (Send place) ≡ is_ready world.sending place
sent_when_ready start world place = refl

-- a reply that is heard does what `on_reply` does with the number of the request that it was given to
pub heard_by_on_reply : (start : OfficeWithBook) (world : World) (which : ℕ) (request : Request) (reply : Reply) → slice_get (taken world) which ≡ Some request → slice_get (given start world) which ≡ Some reply →
    (happens start world (Hear which)).sending ≡ hear request.number reply world.sending
heard_by_on_reply start world which request reply asked told =
    ap (λ (q : Option Reply). (hears world (slice_get (taken world) which) q).sending) told ∙ ap (λ (p : Option Request). (hears world p (Some reply)).sending) asked

-- sending leaves the sender as it is
pub sending_stays : (start : OfficeWithBook) (world : World) (place : ℕ) → (happens start world (Send place)).sending ≡ world.sending
sending_stays start world place = refl
