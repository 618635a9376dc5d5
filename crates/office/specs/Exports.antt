-- What an export writes and says: this project's own rule.
use Rattle.std.specs.Prelude.{◌≡◌, ◌<◌, ◌≤◌, ℕ, List, [], length, Option, Some, unwrap_or, IsNone, IsSomeAnd}
use Rattle.sha2.specs.Sha256.{sha256}
use Rattle.units.specs.Limits.{export_limit}
use Rattle.byte_streams.specs.Streams.{Took, TookBeginning, RoseOrStands}
use Rattle.office.specs.declared.faults.ExportFault.{ExportFault}
use Rattle.office.specs.declared.faults.ExportFault.TheVariants as fault
use Rattle.office.specs.declared.export.ExportReceipt.{ExportReceipt}

-- what a receipt says: the text is there, and was written whole; the receipt has its length, which is within the limit, and its digest
pub record WasExported (text : Option (List ℕ)) (taken_old taken_new : Option (List ℕ)) (receipt : ExportReceipt) : Type 0 where
  pub whole : List ℕ
  pub is : text ≡ Some whole
  pub taken : Took taken_old taken_new whole
  pub bytes : receipt.bytes ≡ length whole
  pub within : length whole ≤ export_limit
  pub digest : receipt.sha256 ≡ sha256 whole

pub record IsTooLong (taken_old taken_new : Option (List ℕ)) (text : List ℕ) : Type 0 where
  pub beginning : TookBeginning taken_old taken_new text
  pub long : export_limit < length text

pub record Failed (taken_old taken_new : Option (List ℕ)) (failed_old failed_new : ℕ) (text : List ℕ) : Type 0 where
  pub beginning : TookBeginning taken_old taken_new text
  pub count : RoseOrStands failed_old failed_new

-- What each fault says: the language isn't there, and nothing was written; or the writer failed, or the text is longer than the
-- limit, behind a beginning of the text; or memory ran out, the tables' disk failed or their file refused, which may come before it is
-- known whether the language is there, behind a beginning of what text there is.
abbrev pub WasCut : Option (List ℕ) → Option (List ℕ) → Option (List ℕ) → ℕ → ℕ → ExportFault → Type 0
WasCut text taken_old taken_new failed_old failed_new fault.NoLanguage = IsNone text × (taken_new ≡ taken_old)
WasCut text taken_old taken_new failed_old failed_new fault.Device = IsSomeAnd text (Failed taken_old taken_new failed_old failed_new)
WasCut text taken_old taken_new failed_old failed_new fault.Memory = TookBeginning taken_old taken_new (unwrap_or text [])
WasCut text taken_old taken_new failed_old failed_new fault.Disk = TookBeginning taken_old taken_new (unwrap_or text [])
WasCut text taken_old taken_new failed_old failed_new fault.Refused = TookBeginning taken_old taken_new (unwrap_or text [])
WasCut text taken_old taken_new failed_old failed_new fault.Long = IsSomeAnd text (IsTooLong taken_old taken_new)
