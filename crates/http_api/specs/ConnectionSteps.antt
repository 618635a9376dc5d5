-- What one step of a connection does: a message is read, and answered. This project's own words, for the code's own steps.
use Rattle.std.specs.Prelude.{◌≡◌, ◌<◌, ◌||◌, ℕ, List, [], ◌++◌, length, Bool, true, false, Option, Result, MatchResult, if◌then◌else◌, ⊤}
use Rattle.byte_streams.specs.Streams.{IsAtEnd, RoseOrStands}
use Rattle.http_messages.specs.Asked.{Asked, Asking}
use Rattle.http_messages.specs.Streams.{step, first_step}
use Rattle.http_messages.specs.Arrivals.{ReadBehind, WasCutOff, WasWanted}
use Rattle.http_messages.specs.declared.inbox.ReadFault.{ReadFault}
use Rattle.http_api.specs.declared.faults.ServeFault.{ServeFault}
use Rattle.http_api.specs.declared.faults.ServeFault.TheVariants as fault
use Rattle.http_api.specs.declared.connection.Next.{Next}
use Rattle.http_api.specs.declared.connection.Next.TheVariants.{End, Last, More}
use Rattle.http_api.specs.Faults.{fault_of}
use Rattle.http_api.specs.Outcomes.{Outcome}

-- what follows an answer, by whether it is the last
abbrev pub next_of : Bool → Next
next_of last = if last then Last else More

-- the first message of the bytes at hand, and what stands behind it: whatever follows, or, where the connection ends, if nothing does
pub data IsFirst (left : Option (List ℕ)) (bytes : List ℕ) (asking : Asking) (behind : List ℕ) : Type 0 where
  whatever_follows : ((rest : List ℕ) → first_step (bytes ++ rest) ≡ step asking (behind ++ rest)) → IsFirst left bytes asking behind
  at_the_end : IsAtEnd left → first_step bytes ≡ step asking [] → asking.ends ≡ true → IsFirst left bytes asking behind

-- Some bytes were read behind those that were there, and the first message of all of them came to its outcome; `full` says that no more may
-- be answered.
pub record TookOne (Came : Asked → Outcome → Type 0) (Wrote : Outcome → Bool → Type 0) (left_old left_new : Option (List ℕ)) (failed_old failed_new : ℕ) (old : List ℕ) (full : Bool) : Type 0 where
  pub at_hand : List ℕ
  pub read : ReadBehind left_old left_new failed_old failed_new old at_hand
  pub wanted : WasWanted old at_hand
  pub some : 0 < length at_hand
  pub asking : Asking
  pub behind : List ℕ
  pub first : IsFirst left_new at_hand asking behind
  pub outcome : Outcome
  pub came : Came asking.asked outcome
  pub wrote : Wrote outcome (asking.ends || full)

-- The stream has ended, and nothing was done.
pub record Ended (Same : Type 0) (left_old left_new : Option (List ℕ)) (failed_old failed_new : ℕ) (old : List ℕ) : Type 0 where
  pub read : ReadBehind left_old left_new failed_old failed_new old []
  pub end : IsAtEnd left_new
  pub same : Same

-- What came of a step, by what is to follow.
abbrev pub Stepped : (Same : Type 0) → (Asked → Outcome → Type 0) → (Outcome → Bool → Type 0) → Option (List ℕ) → Option (List ℕ) → ℕ → ℕ → List ℕ → List ℕ → Bool → Next → Type 0
Stepped Same Came Wrote left_old left_new failed_old failed_new old new full End = Ended Same left_old left_new failed_old failed_new old
Stepped Same Came Wrote left_old left_new failed_old failed_new old new full Last =
    (one : TookOne Came Wrote left_old left_new failed_old failed_new old full) × (one.asking.ends || full ≡ true)
Stepped Same Came Wrote left_old left_new failed_old failed_new old new full More =
    (one : TookOne Came Wrote left_old left_new failed_old failed_new old full) × (one.asking.ends || full ≡ false) × (new ≡ one.behind)

-- A step that failed: nothing was read to be answered, and nothing was done; or the answer broke off.
pub data SteppedOff (Same : Type 0) (Came : Asked → Outcome → Type 0) (Wrote : Outcome → Bool → Type 0) (left_old left_new : Option (List ℕ)) (failed_old failed_new : ℕ) (old : List ℕ) (full : Bool) (fault : ServeFault) : Type 0 where
  unread : (cause : ReadFault) → fault ≡ fault_of cause → Same → WasCutOff left_old left_new failed_old failed_new cause
      → SteppedOff Same Came Wrote left_old left_new failed_old failed_new old full fault
  broke_off : TookOne Came Wrote left_old left_new failed_old failed_new old full
      → SteppedOff Same Came Wrote left_old left_new failed_old failed_new old full fault

-- ---- whatever the disk gives

-- Nothing is held back behind a step, nor where a read failed.
abbrev pub HandsOn : {T : Type 0} → Bool → Result T ServeFault → Type 0
HandsOn new result = MatchResult result (λ _. new ≡ false) (λ f. f ≡ fault.Read → new ≡ false)

-- what the fault of a step says of the source, of the writer and of the tables
abbrev pub StepFailed : (Stopped : Type 0) → ℕ → ℕ → ℕ → ℕ → ServeFault → Type 0
StepFailed Stopped reads_old reads_new writes_old writes_new fault.Read = RoseOrStands reads_old reads_new
StepFailed Stopped reads_old reads_new writes_old writes_new fault.Write = RoseOrStands writes_old writes_new
StepFailed Stopped reads_old reads_new writes_old writes_new fault.Memory = ⊤
StepFailed Stopped reads_old reads_new writes_old writes_new fault.Disk = Stopped
