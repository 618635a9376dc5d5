-- A whole transaction that writes by one step: it commits, or its commit fails, or the step fails and is undone.
use Rattle.std.proofs.Common.{◌≡◌, ◌⊎◌, inl, inr, false, true, Result, Ok, Err, OnOk, IsTrue, [], sym, ap, subst, ◌∙◌, arith}
use Rattle.std.specs.Prelude.{MatchResult, IsErrAnd, IfErr}
use Rattle.sqlite.specs.Effect.{Database}
use Rattle.sqlite.specs.Held.{Held, state}
use Rattle.sqlite.specs.State.{State, HasCleanDisk, Survives, Shows, KeepsCounts}
use Rattle.sqlite.specs.Steps.{FailsToCommit}
use Rattle.sqlite.specs.declared.error.Error.{Error}
use Rattle.sqlite.specs.declared.error.Error.TheVariants.{SqliteFailure}
use Rattle.sqlite.specs.declared.error.ErrorCode.TheVariants.{TransactionState}
use Rattle.sqlite_trees.specs.declared.store.Store as store
use Rattle.sql_schema.specs.Inside.{AreOfficeTablesOf, IsInsideOf}
use Rattle.sql_schema.specs.Whole.{IsIdleOver, IsCommitOf}
use Rattle.sql_schema.proofs.Whole.{committed, fails_writing, stops_writing}
use Rattle.sql_laws.specs.DiskErrors.{HasFailed}
use Rattle.sql_laws.proofs.DiskErrors.{commit_of_disk, failed_before, failed_behind}
use Rattle.sql_decoding.specs.declared.faults.Failure.{Failure}
use Rattle.sql_decoding.specs.DiskFailures.{IsOfError, FailsTruly}
use Rattle.tables.specs.declared.faults.Lost.TheVariants.{Disk}
use Rattle.sqlite.specs.Tree.{Trees}
use Rattle.sqlite.proofs.Callers.{survives_begin}
use Rattle.sql_commits.specs.Ends.{Finishes, EndsTruly}
use Rattle.sql_schema.specs.Layouts.{by_domain}

-- the same transaction, with another error
told_as : {A B E F : Type 0} {S : Type 0} (g : store.Ghosts S) (old last : Held S) (e : E) (f : F) (Makes : Database → Database → Type 0)
    → IsCommitOf {A = A} by_domain (state g old) (state g last) (Err e) Makes → IsCommitOf {A = B} by_domain (state g old) (state g last) (Err f) Makes
told_as g old last e f Makes it = record { made = λ clean. tt; same = it.same; was_open = it.was_open; is_open = λ clean. tt; ended = it.ended; survives = it.survives }

module _ {S : Type 0} (g : store.Ghosts S) (old mid last : Held S) (Makes : Database → Database → Type 0) (idle : IsIdleOver by_domain (state g old)) (ended : (state g last).in_transaction ≡ false) where
  abbrev IsWritten : {A E : Type 0} → Result A E → Type 0
  IsWritten written = IsInsideOf by_domain (state g (record old { in_transaction = true })) (state g mid) written Makes

  all : {A E : Type 0} (x : A) → IsWritten {E = E} (Ok x) → HasCleanDisk (state g mid) → IsTrue (state g old).is_open × Makes (state g old).now (state g mid).now × AreOfficeTablesOf by_domain (state g mid).now
  all x it clean = ((it.kept clean).was_open (it.stays clean).is_open, it.made clean, it.ready clean)

  ends : {A B E F : Type 0} (written : Result A E) (result : Result B F) → IsWritten written → Finishes g mid last written result → IsCommitOf by_domain (state g old) (state g last) result Makes
  ends {E} (Ok x) (Ok y) it end =
      let whole = committed g old mid last idle it.kept it.survives y ended end.commits end.left Makes (all {E = E} x it) in
      record { made = whole.made; same = whole.same; was_open = whole.was_open; is_open = whole.is_open; ended = whole.ended; survives = whole.survives }
  ends {B} {E} (Ok x) (Err f) it end =
      told_as {A = B} {B = B} g old last end.fails.0 f Makes (fails_writing g old mid last idle it.kept it.survives end.fails.0 ended (λ clean. (it.stays clean).inside) end.fails.1 end.left {A = B} Makes (all {E = E} x it))
  ends (Err e) (Ok y) it end = absurd (let no = end.told in cc)
  ends {B} (Err e) (Err f) it end =
      let cause = SqliteFailure TransactionState in
      told_as {A = B} {B = B} g old last cause f Makes (stops_writing g old mid last idle it.kept it.survives cause ended end.undone.0 end.undone.1 {A = B} Makes)

-- from what its beginning makes of the connection
pub finishes : {S : Type 0} (g : store.Ghosts S) (old begun last : Held S) → begun ≡ record old { in_transaction = true } → IsIdleOver by_domain (state g old) → (state g last).in_transaction ≡ false
    → (Makes : Database → Database → Type 0) → {mid : Held S} {A B E F : Type 0} {written : Result A E} {result : Result B F}
    → Finishes g mid last written result → IsInsideOf by_domain (state g begun) (state g mid) written Makes → IsCommitOf by_domain (state g old) (state g last) result Makes
finishes g old begun last begins idle ended Makes {mid} {written} {result} end inside =
    ends g old mid last Makes idle ended written result (subst (λ h. IsInsideOf by_domain (state g h) (state g mid) written Makes) begins inside) end

-- what a commit says where it succeeds
abbrev Commits : State → State → Type 0
Commits mid last = IsTrue mid.in_transaction × Shows mid last mid.now mid.now false × KeepsCounts mid last × (last.marks ≡ [])

-- how a transaction ends where all was written, from what its commit says
module _ {S : Type 0} (g : store.Ghosts S) (mid last : Held S) {A B E F : Type 0} (x : A) where
  ends_written : (r : Result B Error) (told : Result B F) (Tells : Error → F → Type 0) → MatchResult r (λ y. told ≡ Ok y) (λ e. IsErrAnd told (Tells e))
      → (HasCleanDisk (state g last) → OnOk r (Commits (state g mid) (state g last))) → (HasCleanDisk (state g last) → IfErr r (FailsToCommit (state g mid) (state g last)))
      → Survives (state g mid) (state g last) (λ db. db ≡ (state g mid).now.trees) → Finishes g {A = A} {E = E} mid last (Ok x) told
  ends_written (Ok y) (Ok z) Tells cases ok err left = record { commits = λ clean. (ok clean).1; fails = tt; left = left; told = tt; undone = tt }
  ends_written (Ok y) (Err f) Tells cases ok err left = absurd (let no = cases in cc)
  ends_written (Err e) (Ok z) Tells cases ok err left = absurd cases
  ends_written (Err e) (Err f) Tells cases ok err left = record { commits = tt; fails = (e, err); left = left; told = tt; undone = tt }

  pub finishes_written : (written : Result A E) (r : Result B Error) (told : Result B F) (Tells : Error → F → Type 0) → written ≡ Ok x → MatchResult r (λ y. told ≡ Ok y) (λ e. IsErrAnd told (Tells e))
      → (HasCleanDisk (state g last) → OnOk r (Commits (state g mid) (state g last))) → (HasCleanDisk (state g last) → IfErr r (FailsToCommit (state g mid) (state g last)))
      → Survives (state g mid) (state g last) (λ db. db ≡ (state g mid).now.trees) → Finishes g mid last written told
  finishes_written written r told Tells is cases ok err left = subst (λ w. Finishes g mid last w told) (sym is) (ends_written r told Tells cases ok err left)

-- ---- what tells of the disk

-- what was written failed
pub handed_truly : {A B : Type 0} (Failed : Type 0) (f : Failure) (written : Result A Failure) (given : Result B Failure) → written ≡ Err f → IsErrAnd given (λ failure. failure ≡ f)
    → IfErr given (λ failure. failure.lost ≡ Disk → IsErrAnd written (λ cause. cause.lost ≡ Disk) ⊎ Failed)
handed_truly Failed f written (Ok x) was told = tt
handed_truly {A} Failed f written (Err failure) was told =
    λ disk. inl (subst (λ (w : Result A Failure). IsErrAnd w (λ cause. cause.lost ≡ Disk)) (sym was) (ap (λ (failure : Failure). failure.lost) (sym told) ∙ disk))

module _ {A B : Type 0} (mid last : State) where
  -- the commit did
  pub committed_truly : (written : Result A Failure) (r : Result B Error) (told : Result B Failure) (Tells : Error → Failure → Type 0) → ((e : Error) (failure : Failure) → Tells e failure → IsOfError e failure)
      → MatchResult r (λ y. told ≡ Ok y) (λ e. IsErrAnd told (Tells e)) → (HasCleanDisk last → IfErr r (FailsToCommit mid last)) → EndsTruly mid last written told
  committed_truly written r (Ok y) Tells comes cases fails clean = tt
  committed_truly written (Ok x) (Err failure) Tells comes cases fails clean = absurd (let no = cases in cc)
  committed_truly written (Err e) (Err failure) Tells comes cases fails clean = λ disk. inr (commit_of_disk mid last e (fails clean) ((comes e failure cases).disk.0 disk))

-- a whole transaction, from before its beginning to behind its end
module _ {S : Type 0} (g : store.Ghosts S) (old begun mid last : Held S) (begins : begun ≡ record old { in_transaction = true }) where
  from_begin : (P : Trees → Type 0) → Survives (state g begun) (state g mid) P → Survives (state g old) (state g mid) P
  from_begin P inside = survives_begin g old (state g mid) P (subst (λ h. Survives (state g h) (state g mid) P) begins inside)

  behind : (P Q : Trees → Type 0) → Survives (state g begun) (state g mid) P → Survives (state g mid) (state g last) Q → HasCleanDisk (state g last) → HasFailed (state g mid) (state g last) → HasFailed (state g old) (state g last)
  behind P Q inside end clean = failed_behind (state g old) (state g mid) (state g last) P Q (from_begin P inside) end clean

  before : (Q : Trees → Type 0) → Survives (state g mid) (state g last) Q → HasFailed (state g begun) (state g mid) → HasFailed (state g old) (state g last)
  before Q end failed = failed_before (state g old) (state g mid) (state g last) Q (subst (λ h. HasFailed (state g h) (state g mid)) begins failed) end

  pub finishes_truly : {A B : Type 0} (P : Trees → Type 0) (written : Result A Failure) (result : Result B Failure) → Survives (state g begun) (state g mid) P → Finishes g mid last written result
      → FailsTruly (state g begun) (state g mid) written → EndsTruly (state g mid) (state g last) written result → FailsTruly (state g old) (state g last) result
  finishes_truly P written (Ok y) inside end writes ends clean = tt
  finishes_truly P (Ok x) (Err failure) inside end writes ends clean = λ disk. elim (ends clean disk) [
    | inl none ↦ absurd none
    | inr failed ↦ behind P _ inside end.left clean failed
  ]
  finishes_truly P (Err cause) (Err failure) inside end writes ends clean = λ disk. elim (ends clean disk) [
    | inl is ↦ before _ end.undone.1 (let early : HasCleanDisk (state g mid) = omega (arith, clean, end.undone.1.clean) in writes early is)
    | inr failed ↦ behind P _ inside end.undone.1 clean failed
  ]
