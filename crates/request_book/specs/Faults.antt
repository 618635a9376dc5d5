-- The number of each fault of a reader of requests. This project's own rule.
use Rattle.std.specs.Prelude.{ℕ}
use Rattle.request_book.specs.declared.fault.RequestFault.{RequestFault}
use Rattle.request_book.specs.declared.fault.RequestFault.TheVariants.{Malformed, Memory}

abbrev pub fault_number : RequestFault → ℕ
fault_number Malformed = 1
fault_number Memory = 2
