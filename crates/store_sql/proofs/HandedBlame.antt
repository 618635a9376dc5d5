-- A fault of records that are handed on blames the disk as truly as the statements behind it do.
use Rattle.std.proofs.Common.{◌≡◌, ◌≢◌, Result, Ok, Err, sym, ◌∙◌}
use Rattle.sqlite.specs.State.{State, HasCleanDisk, Survives}
use Rattle.sqlite.specs.Tree.{Trees}
use Rattle.tables.specs.declared.faults.Lost.{Lost}
use Rattle.tables.specs.declared.faults.Lost.TheVariants.{Disk}
use Rattle.sql_laws.specs.DiskErrors.{HasFailed}
use Rattle.sql_laws.proofs.DiskErrors.{failed_behind}
use Rattle.sql_streams.specs.Walks.{FailsTruly}
use Rattle.sql_streams.specs.declared.walking.WalkFault.{WalkFault}
use Rattle.sql_streams.specs.declared.walking.WalkFault.TheVariants.{NoRows, NoSink as RowRefused}
use Rattle.store_sql.specs.declared.recorded.HandingFault.{HandingFault}
use Rattle.store_sql.specs.declared.recorded.HandingFault.TheVariants.{NoRecord, NoTables, NoSink}
use Rattle.store_sql.specs.RecordsBehind.{IsTold, HandsTruly}

same_lost : {R : Type 0} (fault : HandingFault R) (lost : Lost) → fault ≡ NoTables lost → fault ≡ NoTables Disk → lost ≡ Disk
same_lost {R} fault lost is disk = let same : ◌≡◌ {A = HandingFault R} (NoTables lost) (NoTables Disk) = sym is ∙ disk in cc

no_tables : {R : Type 0} (fault : HandingFault R) (refusal : R) → fault ≡ NoSink refusal → fault ≢ NoTables Disk
no_tables {R} fault refusal is disk = let same : ◌≡◌ {A = HandingFault R} (NoSink refusal) (NoTables Disk) = sym is ∙ disk in absurd cc

module _ {R : Type 0} (old new : State) where
  -- a walk that was cut short
  pub walk_hands : (fault : WalkFault R) (told : HandingFault R) → IsTold fault told → (HasCleanDisk new → FailsTruly old new fault) → HasCleanDisk new → told ≡ NoTables Disk → HasFailed old new
  walk_hands (NoRows error) told is fails clean disk = fails clean (is.2.0 (same_lost told is.0 is.1 disk))
  walk_hands (RowRefused refusal) told is fails clean disk = absurd (no_tables told refusal is disk)

  -- a look-up that failed before anything was handed on
  pub failure_hands : (lost : Lost) → (HasCleanDisk new → lost ≡ Disk → HasFailed old new) → HasCleanDisk new → ◌≡◌ {A = HandingFault R} (NoTables lost) (NoTables Disk) → HasFailed old new
  failure_hands lost fails clean disk = fails clean (let same : ◌≡◌ {A = HandingFault R} (NoTables lost) (NoTables Disk) = disk in cc)

  -- no record has the number
  pub none_hands : HasCleanDisk new → ◌≡◌ {A = HandingFault R} NoRecord (NoTables Disk) → HasFailed old new
  none_hands clean disk = let same : ◌≡◌ {A = HandingFault R} NoRecord (NoTables Disk) = disk in absurd cc

-- a call behind one that answered
pub hands_behind : {R T : Type 0} (a b c : State) (P Q : Trees → Type 0) (r : Result T (HandingFault R)) → Survives a b P → Survives b c Q → HandsTruly b c r → HandsTruly a c r
hands_behind a b c P Q (Ok x) before after hands clean = tt
hands_behind a b c P Q (Err fault) before after hands clean = λ disk. failed_behind a b c P Q before after clean (hands clean disk)
