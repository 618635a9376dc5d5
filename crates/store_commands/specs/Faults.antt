-- What is told where an office's tables can't be had. This project's own rule; the faults are numbered as `open_fault_number` says.
use Rattle.std.specs.Prelude.{◌⊎◌, ℕ, List, codes}
use Rattle.sql_adoption.specs.declared.faults.OpenFault.{OpenFault}
use Rattle.sql_adoption.specs.declared.faults.OpenFault.TheVariants.{Memory, Disk, Foreign, Exists, Refused}
use Rattle.office.specs.Writers.{Writer, TakesAll, TakesPart}

abbrev pub store_fault_line : OpenFault → List ℕ
store_fault_line Memory = codes "store fault 1\n"
store_fault_line Disk = codes "store fault 2\n"
store_fault_line (Foreign why) = codes "store fault 3\n"
store_fault_line Exists = codes "store: exists\n"
store_fault_line Refused = codes "store fault 5\n"

-- the line was written, or a write failed behind a beginning of it
abbrev pub TellsLine : Writer → Writer → List ℕ → Type 0
TellsLine old new line = TakesAll old new line ⊎ TakesPart old new line
