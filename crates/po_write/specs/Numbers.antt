-- The numbers of the faults of writing. This project's own rule.
use Rattle.std.specs.Prelude.{ℕ}
use Rattle.po_write.specs.declared.fault.WriteFault.{WriteFault}
use Rattle.po_write.specs.declared.fault.WriteFault.TheVariants.{Device, Memory, Failed}

abbrev pub fault_number : WriteFault → ℕ
fault_number Device = 1
fault_number Memory = 2
fault_number Failed = 3
