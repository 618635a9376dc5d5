-- What a reader answers of a PO text is what the definition reads of it.
use Rattle.std.proofs.Common.{◌≡◌, ℕ, List, None, ap, ◌∙◌, ◌⊎◌, ⊎_elim}
use Rattle.std.specs.Prelude.{Ok, Err}
use Rattle.po_lex.specs.declared.fault.PoFault.{PoFault}
use Rattle.po_lex.specs.declared.fault.FaultKind.TheVariants as kinds
use Rattle.po_text.specs.declared.entry.Entry.{Entry}
use Rattle.po_read.specs.Spells.{Spells, IsWithin, limits}
use Rattle.po_read.specs.Faults.{Fault, IsFault, fault_of}
use Rattle.po_read.specs.Plain.{entries_of, reading_of, unless}
use Rattle.po_read.specs.ReaderAnswers.{IsMemory}
use Rattle.po_read.proofs.Accepts.{no_fault}
use Rattle.po_read.proofs.Least.{computed}
use Rattle.po_read.proofs.Passing.{spelled_passes}
use Rattle.po_read.proofs.OneCatalogue.{one_catalogue}
use Rattle.std.proofs.Common.{lit<}

pub read_whole : (bytes : List ℕ) (entries : List Entry) → Spells bytes entries × IsWithin limits bytes entries → reading_of limits bytes ≡ Ok entries
unfolding reading_of
read_whole bytes entries (spelled, within) =
    let passes : fault_of limits bytes ≡ None = spelled_passes limits bytes entries (lit< tt) spelled within in
    let own = no_fault limits bytes passes in
    ap (λ o. unless o (entries_of bytes)) passes ∙ ap Ok (one_catalogue bytes (entries_of bytes) entries own.spells spelled)

pub read_fault : (bytes : List ℕ) (fault : Fault) → IsFault limits bytes fault → reading_of limits bytes ≡ Err fault
unfolding reading_of
read_fault bytes fault is = ap (λ o. unless o (entries_of bytes)) (computed limits bytes fault is)

-- a fault that isn't want of memory
pub told_fault : (bytes : List ℕ) (fault : PoFault) → IsFault limits bytes (fault.line, fault.kind) ⊎ IsMemory fault → (fault.kind ≡ kinds.Memory → ⊥) → reading_of limits bytes ≡ Err (fault.line, fault.kind)
told_fault bytes fault told other = ⊎_elim (λ is. read_fault bytes (fault.line, fault.kind) is) (λ m. absurd (other m)) told
