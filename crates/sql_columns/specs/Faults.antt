-- The numbers of the faults of columns, and what a reading that needs memory gives: this project's own words.
use Rattle.std.specs.Prelude.{◌≡◌, ◌⊎◌, ℕ, Result, Ok, Err}
use Rattle.sql_columns.specs.declared.fault.RowFault.{RowFault}
use Rattle.sql_columns.specs.declared.fault.RowFault.TheVariants.{Malformed, Memory}

abbrev pub fault_number : RowFault → ℕ
fault_number Malformed = 1
fault_number Memory = 2

-- the reading gave the value, or a growth was refused
abbrev pub Gives : {V : Type 0} → Result V RowFault → V → Type 0
Gives result value = (result ≡ Ok value) ⊎ (result ≡ Err Memory)
