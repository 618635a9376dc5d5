-- What an export says of the text that was written, and of what a stop may leave.
use Rattle.std.proofs.Common.{◌≡◌, ◌⊎◌, inl, inr, ℕ, List, [], append-nil, Option, sym, subst, ◌∙◌}
use Rattle.std.specs.Prelude.{IsSomeAnd}
use Rattle.po_text.specs.Texts.{Text}
use Rattle.units.specs.Office.{Office, project_in}
use Rattle.tables.specs.Stops.{AddsOnly, Nothing}
use Rattle.byte_streams.specs.Streams.{Took, TookBeginning, RoseOrStands}
use Rattle.byte_streams.proofs.Taking.{append_known-nil, took_then_beginning}
use Rattle.byte_streams.specs.Sending.{TookAll, TookPart}
use Rattle.office_specification.specs.ExportText.{export_text}
use Rattle.office.specs.declared.export.ExportReceipt.{ExportReceipt}
use Rattle.office.specs.declared.faults.ExportFault.TheVariants.{Device, Disk}
use Rattle.office.specs.Exports.{WasExported, WasCut, Failed}
use Rattle.office.specs.Writers.{Writer}
use Rattle.commands.specs.ExportLines.{Printed, printed, untold, ended, IsToldBehind, whole, broken, held}

pub text_taken : (text : Option (List ℕ)) (t0 t1 : Option (List ℕ)) (receipt : ExportReceipt) → WasExported text t0 t1 receipt → IsSomeAnd text (Took t0 t1)
text_taken text t0 t1 receipt exported =
    let P : Option (List ℕ) → Type 0 = λ t. IsSomeAnd t (Took t0 t1) in
    subst P (sym exported.is) exported.taken

-- behind a text that was handed on
handed_on : (text : Option (List ℕ)) (t0 t1 t2 : Option (List ℕ)) (f1 f2 : ℕ) (receipt : ExportReceipt) → WasExported text t0 t1 receipt → TookAll t1 t2 f1 f2 [] → WasExported text t0 t2 receipt
handed_on text t0 t1 t2 f1 f2 receipt exported all =
    let P : Option (List ℕ) → Type 0 = λ t. WasExported text t0 t receipt in
    subst P (sym (all.taken ∙ append_known-nil t1)) exported

-- behind one that wasn't, or not all of it
held_back : (text : Option (List ℕ)) (t0 t1 t2 : Option (List ℕ)) (f0 f1 f2 : ℕ) (receipt : ExportReceipt) → WasExported text t0 t1 receipt → f1 ≡ f0 → TookPart t1 t2 f1 f2 [] →
    WasCut text t0 t2 f0 f2 Device
held_back text t0 t1 t2 f0 f1 f2 receipt exported same part =
    let P : Option (List ℕ) → Type 0 = λ t. IsSomeAnd t (Failed t0 t2 f0 f2) in
    let B : List ℕ → Type 0 = λ whole. TookBeginning t0 t2 whole in
    let R : ℕ → Type 0 = λ f. RoseOrStands f f2 in
    subst P (sym exported.is) (record {
      beginning = subst B (append-nil exported.whole) (took_then_beginning t0 t1 t2 exported.whole [] exported.taken part.beginning);
      count = subst R same part.count;
    })

pub receipt_told : {Honest Gone : Type 0} {office : Office} {domain lang : Text} {w0 w1 w2 e0 e1 : Writer} (receipt : ExportReceipt) (status : ℕ) →
    (Honest → WasExported (export_text (project_in office domain) lang) w0.taken w1.taken receipt) → w1.failed ≡ w0.failed → IsToldBehind w1 w2 e0 e1 receipt status →
    Printed Honest Gone office domain lang w0 w2 e0 e1 status
receipt_told {office = office} {domain = domain} {lang = lang} {w0} {w1} {w2} receipt status exported count (whole all told is) =
    printed receipt (λ h. handed_on (export_text (project_in office domain) lang) w0.taken w1.taken w2.taken w1.failed w2.failed receipt (exported h) all) told is
receipt_told {office = office} {domain = domain} {lang = lang} {w0} {w1} {w2} receipt status exported count (broken all told is) =
    untold receipt (λ h. handed_on (export_text (project_in office domain) lang) w0.taken w1.taken w2.taken w1.failed w2.failed receipt (exported h) all) told is
receipt_told {office = office} {domain = domain} {lang = lang} {w0} {w1} {w2} receipt status exported count (held part told is) =
    ended
    (record {
      fault = Device;
      cut = λ h. held_back (export_text (project_in office domain) lang) w0.taken w1.taken w2.taken w0.failed w1.failed w2.failed receipt (exported h) count part;
      device = λ _. let R : ℕ → Type 0 = λ f. RoseOrStands f w2.failed in subst R count part.count;
      disk = λ is. absurd (let differs : Device ≡ Disk = is in cc);
      told = told;
    })
    is

-- it adds nothing to what a stop may leave, whether the tables were shut or not
pub adds_nothing : {M : Type 0} {before now : M → Type 0} {Whole : Type 0} → AddsOnly before now (λ m. Whole × Nothing m) → AddsOnly before now Nothing
adds_nothing {before = before} {Whole = Whole} adds m is = by (adds m is)
  where
    by : before m ⊎ (Whole × Nothing m) → before m ⊎ Nothing m
    by (inl h) = inl h
    by (inr never) = absurd never.1
