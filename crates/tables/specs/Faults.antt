-- The numbers of faults: this project's own rule.
use Rattle.std.specs.Prelude.{ℕ}
use Rattle.tables.specs.declared.faults.Lost.{Lost}
use Rattle.tables.specs.declared.faults.Lost.TheVariants.{Memory, Disk, Refused}
use Rattle.tables.specs.declared.faults.EachFault.{EachFault}
use Rattle.tables.specs.declared.faults.EachFault.TheVariants.{NoTables, NoSink}

abbrev pub lost_number : Lost → ℕ
lost_number Memory = 1
lost_number Disk = 2
lost_number Refused = 3

abbrev pub each_fault_number : {R : Type 0} → EachFault R → ℕ
each_fault_number (NoTables lost) = 1
each_fault_number (NoSink refusal) = 2
