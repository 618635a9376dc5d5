-- What a reader answers, of what its lines gave.
use Rattle.std.proofs.Common.{◌≡◌, ℕ, ◌<◌, ◌≤◌, List, [], ◌++◌, Bool, true, false, length, refl, sym, ◌∙◌, ap, subst, Option, Some, None, nat_lt, lit<, ◌⊎◌, inl, inr}
use Rattle.std.specs.Prelude.{IsUtf8}
use Rattle.std.specs.Str.{is_utf8}
use Rattle.std.proofs.lemmas.Bool.{le-ltb}
use Rattle.std.proofs.lemmas.Str.{IsUtf8-from_is_utf8, is_utf8-from_IsUtf8}
use Rattle.po_lex.specs.declared.fault.FaultKind.TheVariants as kinds
use Rattle.po_lex.specs.declared.fault.PoFault.{PoFault}
use Rattle.po_lex.specs.Lines.{lines_of}
use Rattle.po_text.specs.declared.entry.Entry.{Entry}
use Rattle.po_read.specs.Spells.{Spells, IsWithin, limits}
use Rattle.po_read.specs.Faults.{no_lines, Fault, IsFault, too_long, not_utf8, fault_from, fault_of}
use Rattle.po_read.specs.Plain.{entries_of}
use Rattle.po_read.specs.ReaderAnswers.{IsMemory, PassesBefore, IsMemoryLine}
use Rattle.po_read.proofs.Least.{least, computed}
use Rattle.po_read.proofs.Accepts.{no_fault}
use Rattle.po_read.proofs.Passing.{spelled_passes}
use Rattle.po_read.proofs.OneCatalogue.{one_catalogue}

from_text : (bytes : List ℕ) (o : Option Fault) → length bytes ≤ 16777216 → IsUtf8 bytes → fault_from limits 1 no_lines (lines_of bytes) ≡ o → fault_of limits bytes ≡ o
unfolding fault_of
from_text bytes o h u e =
    let small : nat_lt 16777216 (length bytes) ≡ false = le-ltb 16777216 (length bytes) h in
    let text : is_utf8 bytes ≡ true = is_utf8-from_IsUtf8 bytes u in
    rw (small, text) e

pub is_long : (bytes : List ℕ) → 16777216 < length bytes → IsFault limits bytes (0, kinds.Limit)
is_long bytes h = too_long h refl

pub is_no_text : (bytes : List ℕ) → length bytes ≤ 16777216 → (IsUtf8 bytes → ⊥) → IsFault limits bytes (0, kinds.NotUtf8)
is_no_text bytes small other = not_utf8 small (by (is_utf8 bytes) refl) refl
  where
    by : (b : Bool) → is_utf8 bytes ≡ b → b ≡ false
    by true e = absurd (other (IsUtf8-from_is_utf8 bytes e))
    by false e = refl

pub is_told : (bytes : List ℕ) (fault : PoFault) → length bytes ≤ 16777216 → IsUtf8 bytes → (fault_from limits 1 no_lines (lines_of bytes) ≡ Some (fault.line, fault.kind)) ⊎ IsMemory fault → IsFault limits bytes (fault.line, fault.kind) ⊎ IsMemory fault
is_told bytes fault small u (inl e) = inl (least limits bytes (fault.line, fault.kind) (from_text bytes (Some (fault.line, fault.kind)) small u e))
is_told bytes fault small u (inr m) = inr m

pub is_read : (bytes : List ℕ) (entries : List Entry) → length bytes ≤ 16777216 → IsUtf8 bytes → (fault_from limits 1 no_lines (lines_of bytes) ≡ None) × (entries ≡ entries_of bytes) → Spells bytes entries × IsWithin limits bytes entries
is_read bytes entries small u h =
    let a = no_fault limits bytes (from_text bytes None small u h.0) in
    subst (λ (es : List Entry). Spells bytes es × IsWithin limits bytes es) (sym h.1) (a.spells, a.within)

pub no_catalogue : (bytes : List ℕ) (fault : Fault) → IsFault limits bytes fault → (c : List Entry) → Spells bytes c → IsWithin limits bytes c → ⊥
no_catalogue bytes fault f c s w = none_some (sym (spelled_passes limits bytes c (lit< tt) s w) ∙ computed limits bytes fault f)
  where
    none_some : (let o : Option Fault = None in o) ≡ Some fault → ⊥
    none_some e = cc

pub memory_then : (bytes : List ℕ) (fault : PoFault) → IsFault limits bytes (fault.line, fault.kind) ⊎ IsMemory fault → (c : List Entry) → Spells bytes c → IsWithin limits bytes c → IsMemory fault
memory_then bytes fault (inl f) c s w = absurd (no_catalogue bytes (fault.line, fault.kind) f c s w)
memory_then bytes fault (inr m) c s w = m

pub same_catalogue : (bytes : List ℕ) (a b : List Entry) → Spells bytes a → Spells bytes b → a ≡ b
same_catalogue = one_catalogue

abbrev Outcome : List ℕ → PoFault → Type 0
Outcome bytes fault = (fault_from limits 1 no_lines (lines_of bytes) ≡ Some (fault.line, fault.kind)) ⊎ IsMemory fault

pub told_of : (bytes text : List ℕ) (fault : PoFault) → (text ≡ bytes) × IsUtf8 bytes → length bytes ≤ 16777216 → (fault_from limits 1 no_lines (lines_of text) ≡ Some (fault.line, fault.kind)) ⊎ IsMemory fault → IsFault limits bytes (fault.line, fault.kind) ⊎ IsMemory fault
told_of bytes text fault same small told = is_told bytes fault small same.1 (subst (λ (t : List ℕ). Outcome t fault) same.0 told)

pub memory_line : (bytes text : List ℕ) (line : ℕ) → (text ≡ bytes) × IsUtf8 bytes → length bytes ≤ 16777216 → PassesBefore limits (lines_of text) line → IsMemoryLine limits bytes line
memory_line bytes text line same small h = record { within = small; utf8 = is_utf8-from_IsUtf8 bytes same.1; reached = subst (λ (t : List ℕ). PassesBefore limits (lines_of t) line) same.0 h }

pub read_of : (bytes text : List ℕ) (entries : List Entry) → (text ≡ bytes) × IsUtf8 bytes → length bytes ≤ 16777216 → (fault_from limits 1 no_lines (lines_of text) ≡ None) × (entries ≡ entries_of text) → Spells bytes entries × IsWithin limits bytes entries
read_of bytes text entries same small h = is_read bytes entries small same.1 (subst (λ (t : List ℕ). (fault_from limits 1 no_lines (lines_of t) ≡ None) × (entries ≡ entries_of t)) same.0 h)

-- what stands behind no entries
pub gathered : (bytes : List ℕ) (before after : List Entry) → before ≡ [] → (c : List Entry) × Spells bytes c × IsWithin limits bytes c × (after ≡ before ++ c) → Spells bytes after × IsWithin limits bytes after
gathered bytes before after none h = subst (λ (es : List Entry). Spells bytes es × IsWithin limits bytes es) (sym (h.3 ∙ ap (λ (es : List Entry). es ++ h.0) none)) (h.1, h.2)
