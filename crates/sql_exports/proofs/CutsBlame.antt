-- A fault of entries that are handed on blames the disk as truly as the statements behind it do.
use Rattle.std.proofs.Common.{◌≡◌, ◌≢◌, Result, Ok, Err, sym, ◌∙◌}
use Rattle.std.specs.Prelude.{IfErr}
use Rattle.sqlite.specs.State.{State, HasCleanDisk, Survives}
use Rattle.sqlite.specs.Tree.{Trees}
use Rattle.tables.specs.declared.faults.EachFault.{EachFault}
use Rattle.tables.specs.declared.faults.EachFault.TheVariants.{NoTables, NoSink}
use Rattle.tables.specs.declared.faults.Lost.{Lost}
use Rattle.tables.specs.declared.faults.Lost.TheVariants.{Disk}
use Rattle.sql_laws.specs.DiskErrors.{HasFailed}
use Rattle.sql_laws.proofs.DiskErrors.{failed_behind}
use Rattle.sql_streams.specs.Walks.{FailsTruly}
use Rattle.sql_streams.specs.declared.walking.WalkFault.{WalkFault}
use Rattle.sql_streams.specs.declared.walking.WalkFault.TheVariants.{NoRows, NoSink as RowRefused}
use Rattle.sql_exports.specs.Handing.{IsTold, CutsTruly}

same_lost : {R : Type 0} (fault : EachFault R) (lost : Lost) → fault ≡ NoTables lost → fault ≡ NoTables Disk → lost ≡ Disk
same_lost {R} fault lost is disk = let same : ◌≡◌ {A = EachFault R} (NoTables lost) (NoTables Disk) = sym is ∙ disk in cc

no_tables : {R : Type 0} (fault : EachFault R) (refusal : R) → fault ≡ NoSink refusal → fault ≢ NoTables Disk
no_tables {R} fault refusal is disk = let same : ◌≡◌ {A = EachFault R} (NoSink refusal) (NoTables Disk) = sym is ∙ disk in absurd cc

module _ {R : Type 0} (old new : State) where
  -- a walk that was cut short
  pub walk_cuts : (fault : WalkFault (EachFault R)) (told : EachFault R) → IsTold fault told → (HasCleanDisk new → FailsTruly old new fault) → HasCleanDisk new → told ≡ NoTables Disk → HasFailed old new
  walk_cuts (NoRows error) told is fails clean disk = fails clean (is.3.0 (same_lost told is.0 is.1 disk))
  walk_cuts (RowRefused (NoTables lost)) told is fails clean disk = absurd (is.2 (same_lost told is.0 is.1 disk))
  walk_cuts (RowRefused (NoSink refusal)) told is fails clean disk = absurd (no_tables told refusal is disk)

  -- what tells of no disk
  pub never_cuts : {T : Type 0} (r : Result T (EachFault R)) → IfErr r (λ fault. fault ≢ NoTables Disk) → CutsTruly old new r
  never_cuts (Ok x) told clean = tt
  never_cuts (Err fault) told clean = λ disk. absurd (told disk)

  -- a look-up that failed before anything was handed on
  pub failure_cuts : (lost : Lost) → (HasCleanDisk new → lost ≡ Disk → HasFailed old new) → HasCleanDisk new → ◌≡◌ {A = EachFault R} (NoTables lost) (NoTables Disk) → HasFailed old new
  failure_cuts lost fails clean disk = fails clean (let same : ◌≡◌ {A = EachFault R} (NoTables lost) (NoTables Disk) = disk in cc)

-- a call behind one that answered
pub cuts_behind : {R T : Type 0} (a b c : State) (P Q : Trees → Type 0) (r : Result T (EachFault R)) → Survives a b P → Survives b c Q → CutsTruly b c r → CutsTruly a c r
cuts_behind a b c P Q (Ok x) before after cuts clean = tt
cuts_behind a b c P Q (Err fault) before after cuts clean = λ disk. failed_behind a b c P Q before after clean (cuts clean disk)
