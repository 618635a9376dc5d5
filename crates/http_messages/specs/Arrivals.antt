-- What arrives of a stream, message by message. RFC 9112, section 2.1; the limits are this project's own.
use Rattle.std.specs.Prelude.{◌≡◌, ◌<◌, ◌≤◌, ◌+◌, ℕ, List, [], ◌++◌, length, take, drop, Option, Some, None, ⊤}
use Rattle.byte_streams.specs.Streams.{prepend_known, IsAtEnd, RoseOrStands}
use Rattle.http_messages.specs.Heads.{Head, head_of}
use Rattle.http_messages.specs.declared.refusal.Refusal.{Refusal}
use Rattle.http_messages.specs.declared.refusal.Refusal.TheVariants.{Malformed}
use Rattle.http_messages.specs.Asked.{Asking, ending, asking_of, first_failed, head_tests, body_size}
use Rattle.http_messages.specs.Streams.{head_limit, first_head, with_head, step, first_step}
use Rattle.http_messages.specs.declared.inbox.ReadFault.{ReadFault}
use Rattle.http_messages.specs.declared.inbox.ReadFault.TheVariants.{Source, Memory}
use Rattle.http_messages.specs.declared.inbox.Arrival.{Arrival}
use Rattle.http_messages.specs.declared.inbox.Arrival.TheVariants as arrival

-- ---- reading

-- The source gave a piece, which stands behind what was there.
pub record ReadBehind (left_old left_new : Option (List ℕ)) (failed_old failed_new : ℕ) (old new : List ℕ) : Type 0 where
  pub piece : List ℕ
  pub read : left_old ≡ prepend_known piece left_new
  pub behind : new ≡ old ++ piece
  pub count : failed_new ≡ failed_old

-- what a fault says of the source's count of failures
abbrev pub CauseOf : ReadFault → ℕ → ℕ → Type 0
CauseOf Source failed_old failed_new = RoseOrStands failed_old failed_new
CauseOf Memory failed_old failed_new = failed_new ≡ failed_old

-- Reading broke off behind some bytes.
pub record WasCutOff (left_old left_new : Option (List ℕ)) (failed_old failed_new : ℕ) (fault : ReadFault) : Type 0 where
  pub piece : List ℕ
  pub read : left_old ≡ prepend_known piece left_new
  pub cause : CauseOf fault failed_old failed_new

-- ---- what stands at the front

-- behind a head that no test refuses stands the body that it wants
abbrev pub HasBody : Option Head → List ℕ → Type 0
HasBody None behind = ⊤
HasBody (Some head) behind = first_failed (head_tests head) ≡ None → body_size head ≤ length behind

abbrev pub HoldsBehind : Option (List ℕ) → List ℕ → Type 0
HoldsBehind None bytes = head_limit ≤ length bytes
HoldsBehind (Some front) bytes = HasBody (head_of front) (drop (length front) bytes)

-- The bytes hold their first message whole, or a head that is refused, or too many bytes for one: to find that, nothing more is read.
abbrev pub HoldsFirst : List ℕ → Type 0
HoldsFirst bytes = HoldsBehind (first_head bytes) bytes

-- a read brings so many bytes at most
abbrev pub piece_limit : ℕ
piece_limit = 16384

-- No more was read than is wanted: nothing; or without the last piece the first message isn't there.
pub data WasWanted (old new : List ℕ) : Type 0 where
  nothing_read : new ≡ old → WasWanted old new
  last_piece : (first last : List ℕ) → new ≡ old ++ (first ++ last) → length last ≤ piece_limit → (HoldsFirst (old ++ first) → ⊥) → WasWanted old new

-- what a message asks whose head these bytes are
abbrev pub asking_with : Option Head → List ℕ → Asking
asking_with None body = ending Malformed
asking_with (Some head) body = asking_of head body

-- what the first message asks, by how many bytes its head and its body have
abbrev pub asking_in : List ℕ → ℕ → ℕ → Asking
asking_in bytes head body = asking_with (head_of (take head bytes)) (take body (drop head bytes))

-- the first message fails a test that ends the connection
abbrev pub IsRefused : List ℕ → Refusal → Type 0
IsRefused bytes refusal = first_step bytes ≡ step (ending refusal) []

-- whatever follows, or as the bytes stand, where nothing follows
pub data RefusedNow (left : Option (List ℕ)) (bytes : List ℕ) (refusal : Refusal) : Type 0 where
  whatever_follows : ((rest : List ℕ) → IsRefused (bytes ++ rest) refusal) → RefusedNow left bytes refusal
  at_the_end : IsAtEnd left → IsRefused bytes refusal → RefusedNow left bytes refusal

-- The bytes that were read, and those that a source has left: there are none; or the first message is refused; or it is whole, and is
-- the stream's first message whatever follows.
abbrev pub Arrives : Option (List ℕ) → List ℕ → Arrival → Type 0
Arrives left bytes arrival.End = (bytes ≡ []) × IsAtEnd left
Arrives left bytes (arrival.Refused refusal) = (0 < length bytes) × RefusedNow left bytes refusal
Arrives left bytes (arrival.Message lengths) =
    (0 < length bytes) × (lengths.head + lengths.body ≤ length bytes)
    × ((rest : List ℕ) → first_step (bytes ++ rest) ≡ step (asking_in bytes lengths.head lengths.body) (drop (lengths.head + lengths.body) bytes ++ rest))

-- ---- a head, and the body that it wants

-- behind this head a body of this size is read; the stream may end in it
pub record WantsBody (head : Option Head) (size : ℕ) : Type 0 where
  pub whole : (behind : List ℕ) → size ≤ length behind → with_head head behind ≡ step (asking_with head (take size behind)) (drop size behind)
  pub short : (behind : List ℕ) → length behind < size → with_head head behind ≡ step (ending Malformed) []

abbrev pub RefusesHead : Option Head → Refusal → Type 0
RefusesHead head refusal = (behind : List ℕ) → with_head head behind ≡ step (ending refusal) []
