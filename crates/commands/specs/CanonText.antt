-- What `office canon` reads and prints: this project's own rule. Which catalogue a text spells, what its faults are, and what
-- the canonical text of a catalogue is, `po_read` and `po_write` say, after the GNU gettext manual, "The Format of PO Files".
use Rattle.std.specs.Prelude.{◌≡◌, ◌<◌, ◌≤◌, ◌⊎◌, ℕ, List, [], ◌∷◌, ◌++◌, length, codes, decimal, Option}
use Rattle.byte_streams.specs.Streams.{prepend_known, IsAtEnd, RoseOrStands}
use Rattle.po_lex.specs.declared.fault.FaultKind.{FaultKind}
use Rattle.po_lex.specs.declared.fault.FaultKind.TheVariants.{Memory}
use Rattle.po_lex.specs.Kinds.{fault_number}
use Rattle.po_text.specs.declared.entry.Entry.{Entry}
use Rattle.po_read.specs.Spells.{Spells, IsWithin, limits}
use Rattle.po_read.specs.Faults.{IsFault}
use Rattle.po_write.specs.Text.{text_of}
pub use Rattle.office.specs.Writers.{Writer, writer_at, TakesAll, TakesPart}

-- the most bytes that are read: one more than a PO text may have
abbrev pub read_limit : ℕ
read_limit = 16777217

-- these bytes, and no more than may be, were read from the front of what was there
pub record WasRead (old new : Option (List ℕ)) (bytes : List ℕ) : Type 0 where
  pub cut : old ≡ prepend_known bytes new
  pub most : length bytes ≤ read_limit

-- and where they are fewer, nothing is left
pub record WasGathered (old new : Option (List ℕ)) (bytes : List ℕ) : Type 0 where
  pub read : WasRead old new bytes
  pub all : length bytes < read_limit → IsAtEnd new

-- a line `po line L kind K`
abbrev pub po_fault_line : ℕ → FaultKind → List ℕ
po_fault_line line kind = codes "po line " ++ (decimal line ++ (codes " kind " ++ (decimal (fault_number kind) ++ 10 ∷ [])))

-- What came of a text, on the output, on the second output and in the exit status:
pub data Canon (bytes : List ℕ) (reads_failed_old reads_failed_new : ℕ) (w_old w_new e_old e_new : Writer) (status : ℕ) : Type 0 where
  -- the canonical text of the catalogue that it spells,
  written : (c : List Entry) → Spells bytes c → IsWithin limits bytes c → TakesAll w_old w_new (text_of c) → TakesAll e_old e_new [] → status ≡ 0
      → Canon bytes reads_failed_old reads_failed_new w_old w_new e_old e_new status
  -- or a beginning of that,
  broke : (c : List Entry) → Spells bytes c → IsWithin limits bytes c → TakesPart w_old w_new (text_of c) → TakesAll e_old e_new [] → status ≡ 1
      → Canon bytes reads_failed_old reads_failed_new w_old w_new e_old e_new status
  -- or only the line of its fault, or of want of memory,
  told : (line : ℕ) (kind : FaultKind) → IsFault limits bytes (line, kind) ⊎ (kind ≡ Memory) → TakesAll w_old w_new []
      → TakesAll e_old e_new (po_fault_line line kind) ⊎ TakesPart e_old e_new (po_fault_line line kind) → status ≡ 1
      → Canon bytes reads_failed_old reads_failed_new w_old w_new e_old e_new status
  -- or nothing, where a read failed.
  unread : RoseOrStands reads_failed_old reads_failed_new → TakesAll w_old w_new [] → TakesAll e_old e_new [] → status ≡ 1
      → Canon bytes reads_failed_old reads_failed_new w_old w_new e_old e_new status
