-- The numbers of faults: this project's own rule.
use Rattle.std.specs.Prelude.{ℕ}
use Rattle.http_messages.specs.declared.inbox.ReadFault.{ReadFault}
use Rattle.http_messages.specs.declared.inbox.ReadFault.TheVariants.{Source, Memory}
use Rattle.http_messages.specs.declared.message.Unread.{Unread}

abbrev pub fault_number : ReadFault → ℕ
fault_number Source = 1
fault_number Memory = 2

abbrev pub unread_number : Unread → ℕ
unread_number _ = 1
