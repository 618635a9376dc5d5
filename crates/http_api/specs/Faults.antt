-- The numbers of a connection's faults, and which of them follows from reading: this project's own rule.
use Rattle.std.specs.Prelude.{ℕ}
use Rattle.http_messages.specs.declared.inbox.ReadFault.{ReadFault}
use Rattle.http_messages.specs.declared.inbox.ReadFault.TheVariants as read
use Rattle.http_api.specs.declared.faults.ServeFault.{ServeFault}
use Rattle.http_api.specs.declared.faults.ServeFault.TheVariants.{Read, Write, Memory, Disk}

abbrev pub serve_fault_number : ServeFault → ℕ
serve_fault_number Read = 1
serve_fault_number Write = 2
serve_fault_number Memory = 3
serve_fault_number Disk = 4

-- why a connection is given up where no message was read
abbrev pub fault_of : ReadFault → ServeFault
fault_of read.Source = Read
fault_of read.Memory = Memory
