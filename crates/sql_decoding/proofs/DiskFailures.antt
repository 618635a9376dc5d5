-- Which errors tell of the disk, and what is told on of failures.
use Rattle.std.proofs.Common.{◌≡◌, ◌≢◌, true, false, Result, Ok, Err, refl, sym, ap, subst, ◌∙◌, arith}
use Rattle.std.specs.Prelude.{IsErrAnd, IfOk, IfErr, MatchResult}
use Rattle.sqlite.specs.Tree.{Trees}
use Rattle.sqlite.specs.State.{State, HasCleanDisk, Survives}
use Rattle.sqlite.specs.declared.error.Error.{Error}
use Rattle.sqlite.specs.declared.error.Error.TheVariants.{SqliteFailure}
use Rattle.sqlite.specs.declared.error.ErrorCode.{ErrorCode}
use Rattle.sqlite.specs.declared.error.ErrorCode.TheVariants.{OutOfMemory, SystemIoFailure, DatabaseCorrupt, DiskFull, Closed}
use Rattle.tables.specs.declared.faults.Lost.TheVariants.{Memory, Disk, Refused}
use Rattle.sql_laws.specs.DiskErrors.{is_of_disk, HasFailed, BlamesTruly}
use Rattle.sql_laws.proofs.DiskErrors.{failed_before, failed_behind}
use Rattle.sql_decoding.specs.declared.faults.Failure.{Failure}
use Rattle.sql_decoding.specs.DiskFailures.{IsOfError, FailsTruly}

-- ---- what an error comes to

memory_mild : is_of_disk (SqliteFailure OutOfMemory) ≡ false
memory_mild = refl

pub memory_comes : (error : Error) (failure : Failure) → error ≡ SqliteFailure OutOfMemory → failure.lost ≡ Memory → IsOfError error failure
memory_comes error failure is memory = record {
  memory = (λ _. is, λ _. memory);
  disk = (λ disk. absurd (let never : Memory ≡ Disk = sym memory ∙ disk in cc), λ blamed. absurd (let never : false ≡ true = sym memory_mild ∙ sym (ap is_of_disk is) ∙ blamed in cc));
}

pub disk_comes : (error : Error) (failure : Failure) → is_of_disk error ≡ true → failure.lost ≡ Disk → IsOfError error failure
disk_comes error failure blamed disk = record {
  memory = (λ memory. absurd (let never : Memory ≡ Disk = sym memory ∙ disk in cc), λ is. absurd (let never : false ≡ true = sym memory_mild ∙ sym (ap is_of_disk is) ∙ blamed in cc));
  disk = (λ _. blamed, λ _. disk);
}

pub refusal_comes : (error : Error) (failure : Failure) → is_of_disk error ≡ false → error ≢ SqliteFailure OutOfMemory → failure.lost ≡ Refused → IsOfError error failure
refusal_comes error failure mild other refused = record {
  memory = (λ memory. absurd (let never : Memory ≡ Refused = sym memory ∙ refused in cc), λ is. absurd (other is));
  disk = (λ disk. absurd (let never : Disk ≡ Refused = sym disk ∙ refused in cc), λ blamed. absurd (let never : false ≡ true = sym mild ∙ blamed in cc));
}

pub others_mild : (code : ErrorCode) → code ≢ SystemIoFailure → code ≢ DatabaseCorrupt → code ≢ DiskFull → code ≢ Closed → is_of_disk (SqliteFailure code) ≡ false
others_mild SystemIoFailure io corrupt full closed = absurd (io refl)
others_mild DatabaseCorrupt io corrupt full closed = absurd (corrupt refl)
others_mild DiskFull io corrupt full closed = absurd (full refl)
others_mild Closed io corrupt full closed = absurd (closed refl)
others_mild _ io corrupt full closed = refl

pub no_failure_mild : (error : Error) → ((code : ErrorCode) → error ≢ SqliteFailure code) → is_of_disk error ≡ false
no_failure_mild (SqliteFailure code) other = absurd (other code refl)
no_failure_mild _ other = refl

-- ---- what is told on

-- a failure that tells of no disk
pub mild_handed : {A : Type 0} (f : Failure) (given : Result A Failure) → IsErrAnd given (λ failure. failure ≡ f) → f.lost ≢ Disk → IfErr given (λ failure. failure.lost ≢ Disk)
mild_handed f (Ok x) told mild = tt
mild_handed f (Err failure) told mild = λ disk. mild (ap (λ (failure : Failure). failure.lost) (sym told) ∙ disk)

-- what is read of a row that a call needs
pub needed_shown : {A : Type 0} (P : A → Type 0) (read given : Result A Failure) → IfOk given (λ value. read ≡ Ok value) → IfOk read P → IfOk given P
needed_shown P read (Ok x) is shown = subst (λ r. IfOk r P) is shown
needed_shown P read (Err failure) is shown = tt

pub needed_is : {A : Type 0} (P : A → Type 0) (read : Result A Failure) (value : A) → read ≡ Ok value → IfOk read P → P value
needed_is P read value is shown = subst (λ r. IfOk r P) is shown

-- what tells of no disk
pub never_told : {A : Type 0} (a b : State) (given : Result A Failure) → IfErr given (λ failure. failure.lost ≢ Disk) → FailsTruly a b given
never_told a b (Ok x) told clean = tt
never_told a b (Err failure) told clean = λ disk. absurd (told disk)

module _ {A : Type 0} (a b : State) where
  -- a statement's error, told as a failure
  pub error_told : (e : Error) (given : Result A Failure) → IsErrAnd given (IsOfError e) → (HasCleanDisk b → is_of_disk e ≡ true → HasFailed a b) → FailsTruly a b given
  error_told e (Ok x) told blames clean = tt
  error_told e (Err failure) told blames clean = λ disk. blames clean (told.disk.0 disk)

  -- a failure that is told on as it is
  pub failure_told : (f : Failure) (given : Result A Failure) → IsErrAnd given (λ failure. failure ≡ f) → (HasCleanDisk b → f.lost ≡ Disk → HasFailed a b) → FailsTruly a b given
  failure_told f (Ok x) told fails clean = tt
  failure_told f (Err failure) told fails clean = λ disk. fails clean (ap (λ (failure : Failure). failure.lost) (sym told) ∙ disk)

  -- what is mapped to a failure
  pub mapped_told : (r : Result A Error) (told : Result A Failure) (Tells : Error → Failure → Type 0) → ((e : Error) (failure : Failure) → Tells e failure → IsOfError e failure)
      → MatchResult r (λ x. told ≡ Ok x) (λ e. IsErrAnd told (Tells e)) → BlamesTruly a b r → FailsTruly a b told
  mapped_told r (Ok y) Tells comes cases blames clean = tt
  mapped_told (Ok x) (Err failure) Tells comes cases blames clean = absurd (let no = cases in cc)
  mapped_told (Err e) (Err failure) Tells comes cases blames clean = λ disk. blames clean ((comes e failure cases).disk.0 disk)

  -- one that tells of no disk
  pub mild_told : (f : Failure) (given : Result A Failure) → IsErrAnd given (λ failure. failure ≡ f) → f.lost ≢ Disk → FailsTruly a b given
  mild_told f (Ok x) told mild clean = tt
  mild_told f (Err failure) told mild clean = λ disk. absurd (mild (ap (λ (failure : Failure). failure.lost) (sym told) ∙ disk))

  -- want of memory tells of no disk
  pub memory_told : (given : Result A Failure) → IsErrAnd given (λ failure. failure.lost ≡ Memory) → FailsTruly a b given
  memory_told (Ok x) told clean = tt
  memory_told (Err failure) told clean = λ disk. absurd (let never : Memory ≡ Disk = sym told ∙ disk in cc)

module _ {A : Type 0} (a b c : State) where
  -- a call behind one that answered
  pub fails_behind : (P Q : Trees → Type 0) (r : Result A Failure) → Survives a b P → Survives b c Q → FailsTruly b c r → FailsTruly a c r
  fails_behind P Q (Ok x) before after fails clean = tt
  fails_behind P Q (Err failure) before after fails clean = λ disk. failed_behind a b c P Q before after clean (fails clean disk)

  -- what came behind it changes nothing
  pub fails_before : (Q : Trees → Type 0) (r : Result A Failure) → FailsTruly a b r → Survives b c Q → FailsTruly a c r
  fails_before Q (Ok x) fails after clean = tt
  fails_before Q (Err failure) fails after clean = λ disk. failed_before a b c Q (fails (omega (arith, clean, after.clean)) disk) after
