-- What a reader answers: this project's own rule.
use Rattle.std.specs.Prelude.{◌≡◌, ℕ, ◌+◌, ◌≤◌, List, ◌++◌, true, length, Option, Some, None, Result, Ok, Err}
use Rattle.std.specs.Str.{is_utf8}
use Rattle.po_lex.specs.declared.fault.FaultKind.{FaultKind}
use Rattle.po_lex.specs.declared.fault.FaultKind.TheVariants as kinds
use Rattle.po_lex.specs.declared.fault.PoFault.{PoFault}
use Rattle.po_lex.specs.Lines.{lines_of}
use Rattle.po_text.specs.declared.entry.Entry.{Entry}
use Rattle.po_read.specs.Spells.{Limits}
use Rattle.po_read.specs.Faults.{no_lines, Passes}

-- want of memory
abbrev pub IsMemory : PoFault → Type 0
IsMemory fault = fault.kind ≡ kinds.Memory

-- The line with this number is one of these, from 1, or the one behind the last, and no test fails at a line before it.
pub record PassesBefore (most : Limits) (lines : List (List ℕ)) (line : ℕ) : Type 0 where
  pub front : List (List ℕ)
  pub rest : List (List ℕ)
  pub cut : lines ≡ front ++ rest
  pub passes : Passes most no_lines front
  pub is : line ≡ length front + 1

-- A line where memory may run out: the text is not too long and is UTF-8, and no line before has a fault. So the first fault, if there is one, is there or behind.
pub record IsMemoryLine (most : Limits) (bytes : List ℕ) (line : ℕ) : Type 0 where
  pub within : length bytes ≤ most.bytes
  pub utf8 : is_utf8 bytes ≡ true
  pub reached : PassesBefore most (lines_of bytes) line

-- this catalogue, unless memory ran out
abbrev pub ReadsOrMemory : Result (List Entry) PoFault → List Entry → Type 0
ReadsOrMemory (Ok found) catalogue = found ≡ catalogue
ReadsOrMemory (Err fault) catalogue = IsMemory fault

-- the fault that is told
abbrev pub told : {A : Type 0} → Result A FaultKind → Option FaultKind
told (Ok x) = None
told (Err kind) = Some kind
