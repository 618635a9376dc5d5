-- What a walk over the rows of a query hands on, and what it leaves of the connection.
use Rattle.std.specs.Prelude.{◌≡◌, ◌⊎◌, ⊤, true, ℕ, List, [], ◌∷◌, ◌++◌, IsTrue, Result, Ok, Err}
use Rattle.sqlite.specs.Order.{Row}
use Rattle.sqlite.specs.declared.error.Error.TheVariants.{SqliteFailure}
use Rattle.sqlite.specs.declared.error.ErrorCode.TheVariants.{OutOfMemory}
use Rattle.sqlite.specs.State.{State, Begins, Shown, FailsToQuery}
use Rattle.sql_laws.specs.DiskErrors.{is_of_disk, HasFailed}
use Rattle.sql_streams.specs.declared.walking.WalkFault.{WalkFault}
use Rattle.sql_streams.specs.declared.walking.WalkFault.TheVariants.{NoRows, NoSink}

-- the rows begin an answer of the query, or are none
abbrev pub IsBeginning : List ℕ → Row → State → List Row → Type 0
IsBeginning sql params s rows = (rows ≡ []) ⊎ Begins sql params s rows

-- The sink took an answer of the query.
pub record TookAll {K : Type 0} (Took : K → List Row → K → Type 0) (sql : List ℕ) (params : Row) (s : State) (first last : K) : Type 0 where
  pub rows : List Row
  pub shown : Shown sql params s s rows
  pub took : Took first rows last

-- The query failed behind a beginning of an answer, all of which the sink took.
pub record TookSome {K : Type 0} (Took : K → List Row → K → Type 0) (sql : List ℕ) (params : Row) (old : State) (first last : K) : Type 0 where
  pub front : List Row
  pub begins : IsBeginning sql params old front
  pub took : Took first front last

-- The sink took a beginning of an answer and refused the next row of it.
pub record RefusedOne {K R : Type 0} (Took : K → List Row → K → Type 0) (Refuses : K → Row → R → K → Type 0) (sql : List ℕ) (params : Row) (old : State) (first last : K) (refusal : R) : Type 0 where
  pub front : List Row
  pub row : Row
  pub mid : K
  pub begins : Begins sql params old (front ++ row ∷ [])
  pub took : Took first front mid
  pub refused : Refuses mid row refusal last

abbrev pub TookFront : {K R : Type 0} → (K → List Row → K → Type 0) → (K → Row → R → K → Type 0) → List ℕ → Row → State → K → K → WalkFault R → Type 0
TookFront Took Refuses sql params old first last (NoRows error) = TookSome Took sql params old first last
TookFront Took Refuses sql params old first last (NoSink refusal) = RefusedOne Took Refuses sql params old first last refusal

-- a query that tells of the disk failed for it
abbrev pub FailsTruly : {R : Type 0} → State → State → WalkFault R → Type 0
FailsTruly old new (NoRows error) = is_of_disk error ≡ true → HasFailed old new
FailsTruly old new (NoSink refusal) = ⊤

-- A query fails behind some of its rows as it may before the first, or memory was wanting.
abbrev pub FailsAsQuery : {R : Type 0} → List ℕ → Row → State → State → WalkFault R → Type 0
FailsAsQuery sql params old new (NoRows error) = (error ≡ SqliteFailure OutOfMemory) ⊎ FailsToQuery sql params old new error
FailsAsQuery sql params old new (NoSink refusal) = ⊤

-- What a connection that is open shows is what it showed before, or what was committed then: with no transaction open they are one.
pub record StaysPut (old new : State) : Type 0 where
  pub was_open : IsTrue old.is_open
  pub now : (new.now ≡ old.now) ⊎ (new.now ≡ old.committed)
  pub committed : new.committed ≡ old.committed

-- ---- the same by what an answer is

-- The sink took an answer.
pub record GaveAll {K : Type 0} (Took : K → List Row → K → Type 0) (IsAnswer : List Row → Type 0) (first last : K) : Type 0 where
  pub rows : List Row
  pub answer : IsAnswer rows
  pub took : Took first rows last

-- The sink took a beginning of an answer, or nothing.
pub record GaveSome {K : Type 0} (Took : K → List Row → K → Type 0) (IsAnswer : List Row → Type 0) (first last : K) : Type 0 where
  pub front : List Row
  pub rest : List Row
  pub answer : (front ≡ []) ⊎ IsAnswer (front ++ rest)
  pub took : Took first front last

-- The sink took a beginning of an answer and refused the next row.
pub record GaveUpTo {K R : Type 0} (Took : K → List Row → K → Type 0) (Refuses : K → Row → R → K → Type 0) (IsAnswer : List Row → Type 0) (first last : K) (refusal : R) : Type 0 where
  pub front : List Row
  pub row : Row
  pub rest : List Row
  pub mid : K
  pub answer : IsAnswer (front ++ row ∷ rest)
  pub took : Took first front mid
  pub refused : Refuses mid row refusal last

abbrev pub CutShort : {K R : Type 0} → (K → List Row → K → Type 0) → (K → Row → R → K → Type 0) → (List Row → Type 0) → K → K → WalkFault R → Type 0
CutShort Took Refuses IsAnswer first last (NoRows error) = GaveSome Took IsAnswer first last
CutShort Took Refuses IsAnswer first last (NoSink refusal) = GaveUpTo Took Refuses IsAnswer first last refusal

-- all rows of an answer were handed out, or it was cut short
abbrev pub HandsOut : {K R T : Type 0} → (K → List Row → K → Type 0) → (K → Row → R → K → Type 0) → (List Row → Type 0) → K → K → Result T (WalkFault R) → Type 0
HandsOut Took Refuses IsAnswer first last (Ok x) = GaveAll Took IsAnswer first last
HandsOut Took Refuses IsAnswer first last (Err fault) = CutShort Took Refuses IsAnswer first last fault
