-- The numbers under which programs report the kinds of faults: this project's own rule.
use Rattle.std.specs.Prelude.{ℕ}
use Rattle.po_lex.specs.declared.fault.FaultKind.{FaultKind}
use Rattle.po_lex.specs.declared.fault.FaultKind.TheVariants.{NotUtf8, Line, Quote, Escape, Order, Forms, Duplicate, Charset, Limit, Memory}

abbrev pub fault_number : FaultKind → ℕ
fault_number NotUtf8 = 1
fault_number Line = 2
fault_number Quote = 3
fault_number Escape = 4
fault_number Order = 5
fault_number Forms = 6
fault_number Duplicate = 7
fault_number Charset = 8
fault_number Limit = 9
fault_number Memory = 10
