-- What comes of a connection: what its bytes ask, message by message, is answered in order, all of it or only the first. This project's own
-- rule; the stream's messages are those of RFC 9112.
use Rattle.std.specs.Prelude.{◌≡◌, ◌≤◌, ◌⊎◌, ℕ, zero, suc, List, [], ◌∷◌, ◌++◌, length, map, Option, Some, IsSomeAnd}
use Rattle.std.specs.Option.{option_and_then}
use Rattle.byte_streams.specs.Streams.{prepend_known, IsAtEnd, TookBeginning, RoseOrStands}
use Rattle.request_book.specs.Book.{OfficeWithBook}
use Rattle.http_messages.specs.Asked.{Asked}
use Rattle.http_messages.specs.Streams.{Item, first_step, items_of}
use Rattle.http_messages.specs.Arrivals.{HoldsFirst, piece_limit}
use Rattle.office.specs.Writers.{Writer, TakesAll, TakesPart}
use Rattle.http_api.specs.declared.faults.ServeFault.{ServeFault}
use Rattle.http_api.specs.declared.faults.ServeFault.TheVariants.{Read, Write, Memory, Disk}
use Rattle.http_api.specs.Outcomes.{Outcome, IsExported, outcome_answer}
use Rattle.http_api.specs.Served.{HasServed}

abbrev pub questions : List Item → List Asked
questions items = map (λ item. item.asked) items

-- the answers to these messages, joined
abbrev pub answers_to : List Item → List Outcome → List ℕ
answers_to [] outcomes = []
answers_to (item ∷ items) [] = []
answers_to (item ∷ items) (outcome ∷ outcomes) = outcome_answer outcome item.last ++ answers_to items outcomes

-- All that the bytes ask was answered; what was written is known while the tables are honest.
pub record AllServed (Honest Whole Stopped WasWhole : Type 0) (MayLeave StillMayLeave : OfficeWithBook → Type 0) (before after : OfficeWithBook) (bytes : List ℕ) (old new : Writer) (answered : ℕ) : Type 0 where
  pub outcomes : List Outcome
  pub served : HasServed Honest Whole Stopped WasWhole MayLeave StillMayLeave before after (questions (items_of bytes)) outcomes
  pub wrote : Honest → TakesAll old new (answers_to (items_of bytes) outcomes)
  pub count : answered ≡ length (items_of bytes)

-- ---- what was read

-- what stands behind so many messages, which are whole and don't end the connection
abbrev pub behind : ℕ → List ℕ → Option (List ℕ)
behind zero bytes = Some bytes
behind (suc n) bytes = option_and_then (behind n) (first_step bytes).more

-- so many messages stand there, and one more
abbrev pub HoldsNext : ℕ → List ℕ → Type 0
HoldsNext n bytes = IsSomeAnd (behind n bytes) HoldsFirst

-- No more was read than the messages want that were answered: without the last piece the last of them isn't there.
pub record ReadsNoMore (left_old left_new : Option (List ℕ)) (answered : ℕ) : Type 0 where
  pub before : List ℕ
  pub last : List ℕ
  pub read : left_old ≡ prepend_known (before ++ last) left_new
  pub piece : length last ≤ piece_limit
  pub wanted : (n : ℕ) → answered ≡ suc n → HoldsNext n before → ⊥

-- The stream has ended right behind the messages that were answered, none of which ends the connection.
pub record EndsBehind (left_old left_new : Option (List ℕ)) (answered : ℕ) : Type 0 where
  pub given : List ℕ
  pub read : left_old ≡ prepend_known given left_new
  pub end : IsAtEnd left_new
  pub none : behind answered given ≡ Some []

-- there was nothing more, or no more was read
abbrev pub ReadsOn : Option (List ℕ) → Option (List ℕ) → ℕ → Type 0
ReadsOn left_old left_new answered = EndsBehind left_old left_new answered ⊎ ReadsNoMore left_old left_new answered

-- ---- a connection that was given up

-- the last of the messages asks for a language's text
abbrev pub EndsInExport : List Outcome → Type 0
EndsInExport [] = ⊥
EndsInExport (o ∷ []) = IsExported o
EndsInExport (o ∷ next ∷ os) = EndsInExport (next ∷ os)

-- Why, and what was written of these answers till then:
pub data GivenUp (Stopped : Type 0) (reads_failed_old reads_failed_new : ℕ) (old new : Writer) (outcomes : List Outcome) (answers : List ℕ) (fault : ServeFault) : Type 0 where
  -- the reader failed behind all of them;
  no_source : fault ≡ Read → RoseOrStands reads_failed_old reads_failed_new → TakesAll old new answers
      → GivenUp Stopped reads_failed_old reads_failed_new old new outcomes answers fault
  -- or the writer behind a beginning;
  no_sink : fault ≡ Write → TakesPart old new answers
      → GivenUp Stopped reads_failed_old reads_failed_new old new outcomes answers fault
  -- or behind all of them there was no room for what was read;
  no_room : fault ≡ Memory → TakesAll old new answers
      → GivenUp Stopped reads_failed_old reads_failed_new old new outcomes answers fault
  -- or in the last of them, a language's text, memory ran out,
  text_without_memory : fault ≡ Memory → EndsInExport outcomes → TookBeginning old.taken new.taken answers
      → GivenUp Stopped reads_failed_old reads_failed_new old new outcomes answers fault
  -- or the disk failed, which stopped the tables.
  text_without_disk : fault ≡ Disk → EndsInExport outcomes → Stopped → TookBeginning old.taken new.taken answers
      → GivenUp Stopped reads_failed_old reads_failed_new old new outcomes answers fault

-- Only the first of what the bytes ask was taken: the tables are those of its requests, and a beginning of its answers was written, so it has
-- every message whose answer was written whole.
pub record SomeServed (Honest Whole Stopped WasWhole : Type 0) (MayLeave StillMayLeave : OfficeWithBook → Type 0) (before after : OfficeWithBook) (bytes : List ℕ) (reads_failed_old reads_failed_new : ℕ) (old new : Writer) (fault : ServeFault) : Type 0 where
  pub front : List Item
  pub back : List Item
  pub cut : items_of bytes ≡ front ++ back
  pub outcomes : List Outcome
  pub served : HasServed Honest Whole Stopped WasWhole MayLeave StillMayLeave before after (questions front) outcomes
  pub given_up : Honest → GivenUp Stopped reads_failed_old reads_failed_new old new outcomes (answers_to front outcomes) fault
