-- The numbers of faults, and what comes of a call that was lost: this project's own rules.
use Rattle.std.specs.Prelude.{ℕ}
use Rattle.tables.specs.declared.faults.Lost.{Lost}
use Rattle.tables.specs.declared.faults.Lost.TheVariants as lost
use Rattle.sql_adoption.specs.declared.faults.OpenFault.{OpenFault}
use Rattle.sql_adoption.specs.declared.faults.OpenFault.TheVariants.{Memory, Disk, Foreign, Exists, Refused}

abbrev pub open_fault_number : OpenFault → ℕ
open_fault_number Memory = 1
open_fault_number Disk = 2
open_fault_number (Foreign why) = 3
open_fault_number Exists = 4
open_fault_number Refused = 5

abbrev pub fault_of : Lost → OpenFault
fault_of lost.Memory = Memory
fault_of lost.Disk = Disk
fault_of lost.Refused = Refused
