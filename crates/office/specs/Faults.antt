-- The numbers of an export's faults and of a question's, and which of them follows from tables and their sink: this project's own rule.
use Rattle.std.specs.Prelude.{ℕ}
use Rattle.tables.specs.declared.faults.Lost.{Lost}
use Rattle.tables.specs.declared.faults.Lost.TheVariants as lost
use Rattle.tables.specs.declared.faults.EachFault.{EachFault}
use Rattle.tables.specs.declared.faults.EachFault.TheVariants.{NoTables, NoSink}
use Rattle.office.specs.declared.faults.SendFault.{SendFault}
use Rattle.office.specs.declared.faults.SendFault.TheVariants as send
use Rattle.office.specs.declared.faults.ExportFault.{ExportFault}
use Rattle.office.specs.declared.faults.ExportFault.TheVariants as export
use Rattle.office.specs.declared.faults.QueryFault.{QueryFault}
use Rattle.office.specs.declared.faults.QueryFault.TheVariants as query

abbrev pub export_fault_number : ExportFault → ℕ
export_fault_number export.NoLanguage = 1
export_fault_number export.Device = 2
export_fault_number export.Memory = 3
export_fault_number export.Disk = 4
export_fault_number export.Long = 5
export_fault_number export.Refused = 6

-- why an export failed, by why not all entries were taken
abbrev pub fault_of : EachFault SendFault → ExportFault
fault_of (NoTables lost.Memory) = export.Memory
fault_of (NoTables lost.Disk) = export.Disk
fault_of (NoTables lost.Refused) = export.Refused
fault_of (NoSink send.Device) = export.Device
fault_of (NoSink send.Memory) = export.Memory
fault_of (NoSink send.Long) = export.Long

abbrev pub query_fault_number : QueryFault → ℕ
query_fault_number query.NoLanguage = 1
query_fault_number query.NoUnit = 2
query_fault_number query.Memory = 3
query_fault_number query.Disk = 4
query_fault_number query.Refused = 5

-- what a question answers where the tables failed
abbrev pub query_fault_of : Lost → QueryFault
query_fault_of lost.Memory = query.Memory
query_fault_of lost.Disk = query.Disk
query_fault_of lost.Refused = query.Refused
