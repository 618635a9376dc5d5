-- The number of each fault of a sender's maker. This project's own rule.
use Rattle.std.specs.Prelude.{ℕ}
use Rattle.sender.specs.declared.fault.SenderFault.{SenderFault}
use Rattle.sender.specs.declared.fault.SenderFault.TheVariants.{Twice, Memory}

abbrev pub fault_number : SenderFault → ℕ
fault_number Twice = 1
fault_number Memory = 2
