-- What a sender keeps: its requests in their order, each with the reply that is held for it, if there is one. Which of them it may
-- send, and what a reply does. This project's own rule.
use Rattle.std.specs.Prelude.{ℕ, List, take, map, Bool, false, not, ◌&&◌, if◌then◌else◌, is_none, is_some, Option, Some, None, slice_get, option_and_then}
use Rattle.std.specs.Option.{option_map_or}
use Rattle.std.specs.List.{list_any, list_all, IsDistinct}
use Rattle.po_text.specs.Texts.{Text, text_eq}
use Rattle.request_book.specs.declared.act.Request.{Request}
use Rattle.request_book.specs.Replies.{Reply}
use Rattle.request_book.specs.Clash.{clash}
use Rattle.sender.specs.declared.exchange.Exchange.{Exchange}

abbrev pub Sending : Type 0
Sending = List Exchange

-- no number stands twice
abbrev pub HasDistinctNumbers : List Request → Type 0
HasDistinctNumbers requests = IsDistinct text_eq (map (λ request. request.number) requests)

-- nothing is held yet
abbrev pub unanswered : List Request → Sending
unanswered requests = map (λ request. record { request = request; reply = None }) requests

-- no reply is held for it
abbrev pub is_open : Exchange → Bool
is_open exchange = is_none exchange.reply

-- some request without a held reply clashes with it
abbrev pub is_blocked : Sending → Request → Bool
is_blocked earlier request = list_any (λ other. is_open other && clash other.request request) earlier

-- No reply is held for the request at this place, and no earlier request without a held reply clashes with it. Past the end there is
-- nothing to send.
abbrev pub is_ready : Sending → ℕ → Bool
is_ready sending place =
    option_map_or (λ exchange. is_open exchange && not (is_blocked (take place sending) exchange.request)) (slice_get sending place) false

-- a reply is held, if none is
abbrev pub replied : Reply → Exchange → Exchange
replied reply exchange = if is_open exchange then record exchange { reply = Some reply } else exchange

-- A reply to a number comes: it is held for the request with this number, if none is. One to a strange number changes nothing.
abbrev pub hear : Text → Reply → Sending → Sending
hear number reply sending = map (λ exchange. if text_eq number exchange.request.number then replied reply exchange else exchange) sending

-- the reply that is held for the request at this place; none past the end
abbrev pub held : Sending → ℕ → Option Reply
held sending place = option_and_then (λ exchange. exchange.reply) (slice_get sending place)

-- all replies are held
abbrev pub is_finished : Sending → Bool
is_finished sending = list_all (λ exchange. is_some exchange.reply) sending
