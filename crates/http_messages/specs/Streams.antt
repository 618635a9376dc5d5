-- What a stream of bytes asks, message by message: one list for each stream, whatever pieces it comes in. RFC 9112, section 2.1 (a head, and then a
-- body of the length that it gives) and section 9.3 (one message behind another on one connection); the limits are this project's own.
use Rattle.std.specs.Prelude.{ℕ, zero, suc, nat_lt, List, [], ◌∷◌, length, take, drop, Option, Some, None, Bool, if◌then◌else◌, is_none}
use Rattle.http_messages.specs.Cut.{head_cut}
use Rattle.http_messages.specs.Heads.{Head, head_of}
use Rattle.http_messages.specs.declared.refusal.Refusal.TheVariants.{LongHead, Malformed}
use Rattle.http_messages.specs.Asked.{Test, first_failed, head_tests, body_size, Asked, Asking, ending, asking_of}

-- a head has at most this many bytes
abbrev pub head_limit : ℕ
head_limit = 8192

-- the head at the front
abbrev pub first_head : List ℕ → Option (List ℕ)
first_head bytes = head_cut (take head_limit bytes)

-- the first message: what it asks, and what is read behind it, if anything
pub record Step : Type 0 where
  pub asked : Asked
  pub more : Option (List ℕ)

abbrev pub step : Asking → List ℕ → Step
step asking rest = record { asked = asking.asked; more = if asking.ends then None else Some rest }

-- behind a head, a body of the size that it gives
abbrev pub with_body : Head → List ℕ → Step
with_body head behind =
    if nat_lt (length behind) (body_size head) then step (ending Malformed) behind
    else step (asking_of head (take (body_size head) behind)) (drop (body_size head) behind)

abbrev pub with_tests : Option Test → Head → List ℕ → Step
with_tests None head behind = with_body head behind
with_tests (Some t) head behind = step (ending t.refusal) behind

abbrev pub with_head : Option Head → List ℕ → Step
with_head None behind = step (ending Malformed) behind
with_head (Some head) behind = with_tests (first_failed (head_tests head)) head behind

-- bytes that hold no head are too many for one, or the stream ends in one
abbrev pub with_front : Option (List ℕ) → List ℕ → Step
with_front None bytes = step (ending (if nat_lt (length bytes) head_limit then Malformed else LongHead)) bytes
with_front (Some front) bytes = with_head (head_of front) (drop (length front) bytes)

abbrev pub first_step : List ℕ → Step
first_step bytes = with_front (first_head bytes) bytes

-- ---- the stream

-- what is asked, and whether nothing more is read after it
pub record Item : Type 0 where
  pub asked : Asked
  pub last : Bool

-- what is read on behind a message, where so many more may be answered
abbrev pub read_on : ℕ → Option (List ℕ) → Option (List ℕ)
read_on zero more = None
read_on (suc left) more = more

-- what the bytes ask, where so many messages may be answered
unfoldable pub items_within : ℕ → List ℕ → List Item
items_within zero bytes = []
items_within (suc left) [] = []
items_within (suc left) (b ∷ bytes) =
    record { asked = (first_step (b ∷ bytes)).asked; last = is_none (read_on left (first_step (b ∷ bytes)).more) }
    ∷ elim (read_on left (first_step (b ∷ bytes)).more) as (λ _. List Item) [ None ↦ [] | Some rest ↦ items_within left rest ]

-- a connection answers at most this many messages
abbrev pub answer_limit : ℕ
answer_limit = 1000000000

unfoldable pub items_of : List ℕ → List Item
items_of bytes = items_within answer_limit bytes
