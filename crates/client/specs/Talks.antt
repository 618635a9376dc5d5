-- What is said over a link, and what a sender does by it. This project's own rule.
use Rattle.std.specs.Prelude.{◌≡◌, ◌≤◌, ◌+◌, ℕ, List, [], ◌∷◌, ◌++◌, map, true, if◌then◌else◌, nat_eq, Option, Some, option_map, slice_get}
use Rattle.po_text.specs.Texts.{Text}
use Rattle.request_book.specs.declared.act.Request.{Request}
use Rattle.request_book.specs.Replies.{Reply}
use Rattle.sender.specs.declared.exchange.Exchange.{Exchange}
use Rattle.sender.specs.Sending.{Sending, is_ready, hear}
use Rattle.client.specs.Messages.{message}
use Rattle.client.specs.Answers.{IsReplyIn}

-- a message, and what came back, if anything did
pub record Said : Type 0 where
  pub message : List ℕ
  pub answer : Option (List ℕ)

-- behind what was said before, where that is known
abbrev pub said_behind : Option (List Said) → List Said → Option (List Said)
said_behind before more = option_map (λ said. said ++ more) before

-- What a sender makes of the answer to a request: the reply that it is, is heard; or nothing is, since the answer is no reply, or there was no
-- memory for it.
pub data Hears (number : Text) (answer : Option (List ℕ)) (old new : Sending) : Type 0 where
  heard : (bytes : List ℕ) (reply : Reply) → answer ≡ Some bytes → IsReplyIn bytes reply → new ≡ hear number reply old → Hears number answer old new
  missed : new ≡ old → Hears number answer old new

-- a request's turn: its place in the sender's list, its message, and what came back
pub record Turn : Type 0 where
  pub place : ℕ
  pub said : Said

-- Each message is that of a request which was ready when it was sent, and its answer was heard or missed before the next was sent.
abbrev pub IsTalk : Sending → List Turn → Sending → Type 0
IsTalk old [] new = new ≡ old
IsTalk old (turn ∷ more) new =
    (exchange : Exchange) × (slice_get old turn.place ≡ Some exchange) × (is_ready old turn.place ≡ true)
    × (turn.said.message ≡ message exchange.request) × (mid : Sending) × Hears exchange.request.number turn.said.answer old mid × IsTalk mid more new

-- how often the request at a place was sent
abbrev pub times : ℕ → List Turn → ℕ
times place [] = 0
times place (turn ∷ more) = (if nat_eq turn.place place then 1 else 0) + times place more

-- each request was sent so many times at most
abbrev pub IsWithin : ℕ → List Turn → Type 0
IsWithin tries talk = (place : ℕ) → times place talk ≤ tries

-- the sender's requests, in their order
abbrev pub requests_of : Sending → List Request
requests_of sending = map (λ exchange. exchange.request) sending

-- A sender talked over a link, in turns of which this holds.
pub record Talked (Turns : List Turn → Type 0) (said_old said_new : Option (List Said)) (old new : Sending) : Type 0 where
  pub talk : List Turn
  pub said : said_new ≡ said_behind said_old (map (λ turn. turn.said) talk)
  pub is : IsTalk old talk new
  pub turns : Turns talk
