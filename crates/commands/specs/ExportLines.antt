-- What an export writes, and what it tells on the second output. This project's own rule. The text is that of the language's catalogue
-- in canonical form (GNU gettext manual, "The Format of PO Files").
use Rattle.std.specs.Prelude.{◌≡◌, ◌⊎◌, ℕ, List, [], ◌++◌, codes, decimal}
use Rattle.hex.specs.Hex.{encode_lower}
use Rattle.po_text.specs.Texts.{Text}
use Rattle.units.specs.Office.{Office, project_in}
use Rattle.byte_streams.specs.Streams.{RoseOrStands}
use Rattle.office_specification.specs.ExportText.{export_text}
use Rattle.office.specs.declared.export.ExportReceipt.{ExportReceipt}
use Rattle.office.specs.declared.faults.ExportFault.{ExportFault}
use Rattle.office.specs.declared.faults.ExportFault.TheVariants.{Device, Disk}
use Rattle.office.specs.Exports.{WasExported, WasCut}
use Rattle.office.specs.Faults.{export_fault_number}
use Rattle.office.specs.Writers.{Writer, TakesAll, TakesPart}

-- a line `export fault K`
abbrev pub export_fault_line : ExportFault → List ℕ
export_fault_line fault = codes "export fault " ++ (decimal (export_fault_number fault) ++ codes "\n")

-- a line `bytes B sha256 H`, the digest in lower case
abbrev pub receipt_line : ExportReceipt → List ℕ
receipt_line receipt = codes "bytes " ++ (decimal receipt.bytes ++ (codes " sha256 " ++ (encode_lower receipt.sha256 ++ codes "\n")))

-- The export of an office's domain ended with a fault, which says what was written. The fault is told.
pub record EndedWithFault (Honest Gone : Type 0) (office : Office) (domain lang : Text) (out_old out_new faults_old faults_new : Writer) : Type 0 where
  pub fault : ExportFault
  pub cut : Honest → WasCut (export_text (project_in office domain) lang) out_old.taken out_new.taken out_old.failed out_new.failed fault
  -- only a writer that failed is told as one
  pub device : fault ≡ Device → RoseOrStands out_old.failed out_new.failed
  -- and only tables that a failed disk stopped as such
  pub disk : fault ≡ Disk → Gone
  pub told : TakesAll faults_old faults_new (export_fault_line fault) ⊎ TakesPart faults_old faults_new (export_fault_line fault)

-- What came of the export of an office, on the two outputs and in the exit status: the text of the language, and its receipt told, or only a
-- beginning of that; or a fault.
pub data Printed (Honest Gone : Type 0) (office : Office) (domain lang : Text) (out_old out_new faults_old faults_new : Writer) (status : ℕ) : Type 0 where
  printed : (receipt : ExportReceipt) → (Honest → WasExported (export_text (project_in office domain) lang) out_old.taken out_new.taken receipt)
      → TakesAll faults_old faults_new (receipt_line receipt) → status ≡ 0
      → Printed Honest Gone office domain lang out_old out_new faults_old faults_new status
  untold : (receipt : ExportReceipt) → (Honest → WasExported (export_text (project_in office domain) lang) out_old.taken out_new.taken receipt)
      → TakesPart faults_old faults_new (receipt_line receipt) → status ≡ 1
      → Printed Honest Gone office domain lang out_old out_new faults_old faults_new status
  ended : EndedWithFault Honest Gone office domain lang out_old out_new faults_old faults_new → status ≡ 1
      → Printed Honest Gone office domain lang out_old out_new faults_old faults_new status

-- What is told behind a text that the writer took: its receipt, where all of it was handed on, or that the writer failed.
pub data IsToldBehind (out_old out_new faults_old faults_new : Writer) (receipt : ExportReceipt) (status : ℕ) : Type 0 where
  whole : TakesAll out_old out_new [] → TakesAll faults_old faults_new (receipt_line receipt) → status ≡ 0
      → IsToldBehind out_old out_new faults_old faults_new receipt status
  broken : TakesAll out_old out_new [] → TakesPart faults_old faults_new (receipt_line receipt) → status ≡ 1
      → IsToldBehind out_old out_new faults_old faults_new receipt status
  held : TakesPart out_old out_new [] → TakesAll faults_old faults_new (export_fault_line Device) ⊎ TakesPart faults_old faults_new (export_fault_line Device) → status ≡ 1
      → IsToldBehind out_old out_new faults_old faults_new receipt status
