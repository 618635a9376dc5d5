-- The numbers of a link's faults. This project's own rule.
use Rattle.std.specs.Prelude.{ℕ}
use Rattle.client.specs.declared.link.LinkFault.{LinkFault}
use Rattle.client.specs.declared.link.LinkFault.TheVariants.{NoAnswer, Memory}

abbrev pub fault_number : LinkFault → ℕ
fault_number NoAnswer = 1
fault_number Memory = 2
