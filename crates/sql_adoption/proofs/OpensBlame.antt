-- A fault of rows that are read blames the disk as truly as the statements behind it do.
use Rattle.std.proofs.Common.{◌≡◌, ◌≢◌, true, Result, Ok, Err, sym, ◌∙◌, ◌⊎◌, inl, inr, subst}
use Rattle.std.specs.Prelude.{IsErrAnd, IfErr, MatchResult}
use Rattle.sqlite.specs.State.{State, HasCleanDisk, Survives}
use Rattle.sqlite.specs.Tree.{Trees}
use Rattle.sqlite.specs.declared.error.Error.{Error}
use Rattle.tables.specs.declared.faults.Lost.{Lost}
use Rattle.tables.specs.declared.faults.Lost.TheVariants as lost
use Rattle.sql_laws.specs.DiskErrors.{is_of_disk, HasFailed}
use Rattle.sql_laws.proofs.DiskErrors.{failed_behind}
use Rattle.sql_decoding.specs.declared.faults.Failure.{Failure}
use Rattle.sql_adoption.specs.declared.faults.OpenFault.{OpenFault}
use Rattle.sql_adoption.specs.declared.faults.OpenFault.TheVariants.{Memory, Disk}
use Rattle.sql_adoption.specs.Reading.{IsOfStatement, IsOfWalk, unread, OpensTruly}
use Rattle.sql_streams.specs.Walks.{FailsTruly}
use Rattle.sql_streams.specs.declared.walking.WalkFault.{WalkFault}
use Rattle.sql_streams.specs.declared.walking.WalkFault.TheVariants.{NoRows, NoSink}
use Rattle.sqlite.proofs.StateLemmas.{survives_then}

-- rows that are not read tell of no disk
pub unread_mild : (why : Lost) → unread why ≢ Disk
unread_mild lost.Memory same = absurd cc
unread_mild lost.Disk same = absurd cc
unread_mild lost.Refused same = absurd cc

module _ {A : Type 0} (old new : State) where
  -- a statement's error, told as a fault
  pub statement_opens : (e : Error) (given : Result A OpenFault) → IsErrAnd given (IsOfStatement e) → (HasCleanDisk new → is_of_disk e ≡ true → HasFailed old new) → OpensTruly old new given
  statement_opens e (Ok x) told blames clean = tt
  statement_opens e (Err fault) told blames clean = λ disk. blames clean (told.disk.0 disk)

  -- a fault that is told on as it is
  pub fault_opens : (f : OpenFault) (given : Result A OpenFault) → IsErrAnd given (λ fault. fault ≡ f) → (HasCleanDisk new → f ≡ Disk → HasFailed old new) → OpensTruly old new given
  fault_opens f (Ok x) told opens clean = tt
  fault_opens f (Err fault) told opens clean = λ disk. opens clean (sym told ∙ disk)

  -- one that tells of no disk
  pub never_opens : (given : Result A OpenFault) → IfErr given (λ fault. fault ≢ Disk) → OpensTruly old new given
  never_opens (Ok x) told clean = tt
  never_opens (Err fault) told clean = λ disk. absurd (told disk)

  -- why a walk was cut short, told as a fault
  pub walk_opens : (cut : WalkFault Failure) (given : Result A OpenFault) → IsErrAnd given (IsOfWalk cut) → (HasCleanDisk new → FailsTruly old new cut) → OpensTruly old new given
  walk_opens cut (Ok x) told fails clean = tt
  walk_opens (NoRows e) (Err fault) told fails clean = λ disk. fails clean (told.disk.0 disk)
  walk_opens (NoSink failure) (Err fault) told fails clean = λ disk. absurd (unread_mild failure.lost (sym told ∙ disk))

  -- want of memory tells of no disk
  pub memory_opens : (given : Result A OpenFault) → IsErrAnd given (λ fault. fault ≡ Memory) → OpensTruly old new given
  memory_opens (Ok x) told clean = tt
  memory_opens (Err fault) told clean = λ disk. absurd (let never : Memory ≡ Disk = sym told ∙ disk in cc)

-- a call behind one that answered
pub opens_behind : {A : Type 0} (a b c : State) (P Q : Trees → Type 0) (r : Result A OpenFault) → Survives a b P → Survives b c Q → OpensTruly b c r → OpensTruly a c r
opens_behind a b c P Q (Ok x) before after opens clean = tt
opens_behind a b c P Q (Err fault) before after opens clean = λ disk. failed_behind a b c P Q before after clean (opens clean disk)

-- a fault that is told on as it is tells of no disk where it didn't
pub fault_mild : {A : Type 0} (fault : OpenFault) (given : Result A OpenFault) → IsErrAnd given (λ f. f ≡ fault) → fault ≢ Disk → IfErr given (λ f. f ≢ Disk)
fault_mild fault (Ok x) told mild = tt
fault_mild fault (Err f) told mild = λ disk. mild (sym told ∙ disk)

pub memory_mild : {A : Type 0} (given : Result A OpenFault) → IsErrAnd given (λ f. f ≡ Memory) → IfErr given (λ f. f ≢ Disk)
memory_mild given told = fault_mild Memory given told (λ same. absurd cc)

-- what is answered by another's answer
pub passed_opens : {A B : Type 0} (old new : State) (done : Result A OpenFault) (r : Result B OpenFault) (b : B) → MatchResult done (λ _. r ≡ Ok b) (λ fault. r ≡ Err fault) → OpensTruly old new done → OpensTruly old new r
passed_opens old new (Ok u) r b is opens = subst (OpensTruly old new) (sym is) (λ clean. tt)
passed_opens old new (Err fault) r b is opens = subst (OpensTruly old new) (sym is) opens

-- what survives two calls
pub after_both : (a b c : State) (P Q : Trees → Type 0) → Survives a b P → Survives b c Q → Survives a c (λ db. P db ⊎ Q db)
after_both a b c P Q = survives_then a b c P Q (λ db. P db ⊎ Q db) (λ _ db left. inl left) (λ _ db left. inr left)
